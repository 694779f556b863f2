-- A list of calls, one call at a time from its front.
use Rattle.std.proofs.Common.{◌≡◌, ℕ, suc, ◌+◌, ◌<◌, ◌≤◌, cond, List, [], ◌∷◌, ◌++◌, length, get_or, take, set, sym, refl, ap, ◌∙◌, arith}
use Rattle.std.proofs.lemmas.List.{length-take-le, take_more, take_all}
use Rattle.method.specs.Meaning.{Meaning}
use Rattle.runs.specs.Answers.{accepts_code, codes_accepted, overlaid}
use Rattle.runs.specs.Runs.{answer_to, answers_to, bytes_after, bytes_left, came, step}
use Rattle.runs.specs.declared.answer.Answer.{Answer}
use Rattle.runs.specs.declared.call.Call.{Call}
use Rattle.verification.specs.Standings.{Standing}
use Rattle.verification.specs.declared.declared.Declared.{Declared}
use Rattle.verification.specs.declared.progress.Progress.{Progress}

codes_push : (rest : List Answer) (a : Answer) → codes_accepted (rest ++ (a ∷ [])) ≡ codes_accepted rest + cond (accepts_code a) 1 0
codes_push [] a = omega arith
codes_push (x ∷ rest) a = omega (arith, codes_push rest a)

overlaid_push : (rest : List Answer) (a : Answer) (row : List Answer) → overlaid (rest ++ (a ∷ [])) row ≡ set (overlaid rest row) (length rest) a
overlaid_push [] a [] = refl
overlaid_push [] a (b ∷ bs) = refl
overlaid_push (x ∷ rest) a [] = refl
overlaid_push (x ∷ rest) a (b ∷ bs) = ap (λ (ys : List Answer). x ∷ ys) (overlaid_push rest a bs)

module _ (m s : Meaning) (d : Declared) (len : ℕ) where
  answers_length : (p : Progress) (cs : List Call) → length (answers_to m s d len p cs) ≡ length cs
  answers_length p [] = refl
  answers_length p (c ∷ cs) = ap suc (answers_length (step m s d len p c) cs)

  came_push : (p : Progress) (cs : List Call) (c : Call) → came m s d len p (cs ++ (c ∷ [])) ≡ step m s d len (came m s d len p cs) c
  came_push p [] c = refl
  came_push p (x ∷ cs) c = came_push (step m s d len p x) cs c

  answers_push : (p : Progress) (cs : List Call) (c : Call) → answers_to m s d len p (cs ++ (c ∷ [])) ≡ answers_to m s d len p cs ++ (answer_to m s d len (came m s d len p cs) c ∷ [])
  answers_push p [] c = refl
  answers_push p (x ∷ cs) c = ap (λ (ys : List Answer). answer_to m s d len p x ∷ ys) (answers_push (step m s d len p x) cs c)

  bytes_push : (p : Progress) (cs : List Call) (c : Call) (old : List ℕ) → bytes_left m s d len p (cs ++ (c ∷ [])) old ≡ bytes_after d (came m s d len p cs) c (bytes_left m s d len p cs old)
  bytes_push p [] c old = refl
  bytes_push p (x ∷ cs) c old = bytes_push (step m s d len p x) cs c (bytes_after d p x old)

-- a verification that was at p has come through the calls: where it is, the row of answers, the codes counted, the bytes
pub record Through (m s : Meaning) (d : Declared) (len : ℕ) (p : Progress) (row : List Answer) (bytes : List ℕ) (cs : List Call) (q : Progress) (answers : List Answer) (codes : ℕ) (left : List ℕ) : Type 0 where
  pub at : q ≡ came m s d len p cs
  pub answered : answers ≡ overlaid (answers_to m s d len p cs) row
  pub counted : codes ≡ codes_accepted (answers_to m s d len p cs)
  pub written : left ≡ bytes_left m s d len p cs bytes

-- one call more
module _ {m m' s s' : Meaning} {d d' : Declared} {len len' : ℕ} (em : m' ≡ m) (es : s' ≡ s) (ed : d' ≡ d) (el : len' ≡ len) where
  same_step : (q : Progress) (x : Call) → step m' s' d' len' q x ≡ step m s d len q x
  same_step q x =
      ap (λ (y : Meaning). step y s' d' len' q x) em ∙ ap (λ (y : Meaning). step m y d' len' q x) es ∙ ap (λ (y : Declared). step m s y len' q x) ed ∙ ap (λ (y : ℕ). step m s d y q x) el

  same_answer : (q : Progress) (x : Call) → answer_to m' s' d' len' q x ≡ answer_to m s d len q x
  same_answer q x =
      ap (λ (y : Meaning). answer_to y s' d' len' q x) em ∙ ap (λ (y : Meaning). answer_to m y d' len' q x) es ∙ ap (λ (y : Declared). answer_to m s y len' q x) ed ∙ ap (λ (y : ℕ). answer_to m s d y q x) el

  pub one_through : (p : Progress) (row : List Answer) (bytes : List ℕ) (cs : List Call) (i : ℕ) (x₀ : Call) → i < length cs →
      (q q' : Progress) (rest rest' : List Answer) (a : Answer) (n n' : ℕ) (left left' : List ℕ) → Through m s d len p row bytes (take i cs) q rest n left →
      q' ≡ step m' s' d' len' q (get_or cs i x₀) → a ≡ answer_to m' s' d' len' q (get_or cs i x₀) → rest' ≡ set rest i a → n' ≡ n + cond (accepts_code a) 1 0 → left' ≡ bytes_after d' q (get_or cs i x₀) left →
      Through m s d len p row bytes (take (i + 1) cs) q' rest' n' left'
  one_through p row bytes cs i x₀ lt q q' rest rest' a n n' left left' h stepped told noted counted written =
      let x : Call = get_or cs i x₀ in
      let before : List Call = take i cs in
      let more : take (i + 1) cs ≡ before ++ (x ∷ []) = take_more cs i x₀ lt in
      let now_told : a ≡ answer_to m s d len (came m s d len p before) x = told ∙ same_answer q x ∙ ap (λ (y : Progress). answer_to m s d len y x) h.at in
      let long : length (answers_to m s d len p before) ≡ i = answers_length m s d len p before ∙ length-take-le i cs (omega arith) in
      let list : answers_to m s d len p (take (i + 1) cs) ≡ answers_to m s d len p before ++ (a ∷ []) =
      ap (answers_to m s d len p) more ∙ answers_push m s d len p before x ∙ ap (λ (y : Answer). answers_to m s d len p before ++ (y ∷ [])) (sym now_told) in
      record {
        at = stepped ∙ same_step q x ∙ ap (λ (y : Progress). step m s d len y x) h.at ∙ sym (came_push m s d len p before x) ∙ sym (ap (came m s d len p) more);
        answered = noted ∙ ap (λ (ys : List Answer). set ys i a) h.answered ∙ ap (λ (y : ℕ). set (overlaid (answers_to m s d len p before) row) y a) (sym long)
            ∙ sym (overlaid_push (answers_to m s d len p before) a row) ∙ sym (ap (λ (ys : List Answer). overlaid ys row) list);
        counted = counted ∙ ap (λ (y : ℕ). y + cond (accepts_code a) 1 0) h.counted ∙ sym (codes_push (answers_to m s d len p before) a) ∙ sym (ap codes_accepted list);
        written = written ∙ ap (λ (y : Declared). bytes_after y q x left) ed ∙ ap (λ (y : Progress). bytes_after d y x left) h.at ∙ ap (bytes_after d (came m s d len p before) x) h.written
            ∙ sym (bytes_push m s d len p before x bytes) ∙ sym (ap (λ (ys : List Call). bytes_left m s d len p ys bytes) more);
      }

-- the whole list
pub all_through : {m s : Meaning} {d : Declared} {len : ℕ} {p : Progress} {row : List Answer} {bytes : List ℕ} (cs : List Call) (i : ℕ) {q : Progress} {rest : List Answer} {n : ℕ} {left : List ℕ} → length cs ≤ i →
    Through m s d len p row bytes (take i cs) q rest n left → Through m s d len p row bytes cs q rest n left
all_through {m} {s} {d} {len} {p} {row} {bytes} cs i l h =
    let all : take i cs ≡ cs = take_all i cs l in
    record {
      at = h.at ∙ ap (came m s d len p) all;
      answered = h.answered ∙ ap (λ (ys : List Call). overlaid (answers_to m s d len p ys) row) all;
      counted = h.counted ∙ ap (λ (ys : List Call). codes_accepted (answers_to m s d len p ys)) all;
      written = h.written ∙ ap (λ (ys : List Call). bytes_left m s d len p ys bytes) all;
    }

abbrev pub at_progress : {M S : Type 0} → Standing M S → Progress → Standing M S
at_progress w p = record w { progress = p }

-- where only the progress changes, and then only the progress again
pub only_progress : {M S : Type 0} (a : Standing M S) {b c : Standing M S} {p : Progress} → b ≡ at_progress a b.progress → c ≡ at_progress b p → c ≡ at_progress a c.progress
only_progress {M} {S} a {b} {c} {p} first second =
    second ∙ ap (λ (w : Standing M S). at_progress w p) first ∙ ap (at_progress a) (sym (ap (λ (w : Standing M S). w.progress) second))
