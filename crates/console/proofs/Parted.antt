-- The words of a line are its first word and the words behind it.
use Rattle.std.proofs.Common.{◌≡◌, ℕ, suc, ◌+◌, Bool, true, false, cond, not, eqb, List, [], ◌∷◌, length, take, drop, Some, None, Option, sym, refl, ap, ◌∙◌, subst, one-add, arith, Bor, MatchOption}
use lib.Dec.{eqb-suc-zero}
use Rattle.std.proofs.lemmas.List.{drop-drop}
use Rattle.std.specs.List.{prefix_len}
use Rattle.console.specs.Words.{lettered, wordless, words_by}

module _ (p : ℕ → Bool) where
  -- how many letters a line begins with
  abbrev run : List ℕ → ℕ
  run bs = prefix_len (λ b. not (p b)) bs

  abbrev Begins : List ℕ → Type 0
  Begins bs = words_by p bs ≡ take (run bs) bs ∷ words_by p (drop (run bs) bs)

  alone : (b : ℕ) (ws : List (List ℕ)) → lettered b true ws ≡ (b ∷ []) ∷ ws
  alone b [] = refl
  alone b (w ∷ ws) = refl

  more : (b : ℕ) (bs : List ℕ) (n : ℕ) (ws : List (List ℕ)) → words_by p bs ≡ take n bs ∷ ws → lettered b false (words_by p bs) ≡ (b ∷ take n bs) ∷ ws
  more b bs n ws e = ap (lettered b false) e

  step : (b c : ℕ) (bs : List ℕ) (q : Bool) → p b ≡ false → p c ≡ q → (p c ≡ false → Begins (c ∷ bs)) → Begins (b ∷ c ∷ bs)
  step b c bs true e f ih =
      ap (λ t. cond t (words_by p (c ∷ bs)) (lettered b (p c) (words_by p (c ∷ bs)))) e
      ∙ ap (λ t. lettered b t (words_by p (c ∷ bs))) f ∙ alone b (words_by p (c ∷ bs))
      ∙ sym (ap (λ t. take (cond (not t) (1 + run (c ∷ bs)) 0) (b ∷ c ∷ bs) ∷ words_by p (drop (cond (not t) (1 + run (c ∷ bs)) 0) (b ∷ c ∷ bs))) e
      ∙ ap (λ t. take (1 + cond (not t) (1 + run bs) 0) (b ∷ c ∷ bs) ∷ words_by p (drop (1 + cond (not t) (1 + run bs) 0) (b ∷ c ∷ bs))) f)
  step b c bs false e f ih =
      let n = run (c ∷ bs) in
      let longer : run (b ∷ c ∷ bs) ≡ suc n = ap (λ t. cond (not t) (1 + n) 0) e ∙ one-add n in
      ap (λ t. cond t (words_by p (c ∷ bs)) (lettered b (p c) (words_by p (c ∷ bs)))) e
      ∙ ap (λ t. lettered b t (words_by p (c ∷ bs))) f ∙ more b (c ∷ bs) n _ (ih f)
      ∙ sym (ap (λ k. take k (b ∷ c ∷ bs) ∷ words_by p (drop k (b ∷ c ∷ bs))) longer)

  -- a line that begins with a letter begins with a word
  begins : (b : ℕ) (bs : List ℕ) → p b ≡ false → Begins (b ∷ bs)
  begins b [] e = rw e refl
  begins b (c ∷ bs) e = step b c bs (p c) e refl (begins c bs)

  -- the line from its first letter on
  abbrev past : List ℕ → List ℕ
  past line = drop (prefix_len p line) line

  abbrev Lettered : List ℕ → Type 0
  Lettered [] = Unit {0}
  Lettered (b ∷ bs) = p b ≡ false

  lettered_past : (b : ℕ) (bs : List ℕ) (q : Bool) → p b ≡ q → Lettered (past bs) → Lettered (past (b ∷ bs))
  lettered_past b bs true e ih = rw (e, one-add (prefix_len p bs)) ih
  lettered_past b bs false e ih = subst (λ t. Lettered (drop (cond t (1 + prefix_len p bs) 0) (b ∷ bs))) (sym e) e

  begun : (line : List ℕ) → Lettered (past line)
  begun [] = tt
  begun (b ∷ bs) = lettered_past b bs (p b) refl (begun bs)

  -- blanks in front of a line are in none of its words
  unblanked_more : (b : ℕ) (bs : List ℕ) (q : Bool) → p b ≡ q → words_by p bs ≡ words_by p (past bs) → words_by p (b ∷ bs) ≡ words_by p (past (b ∷ bs))
  unblanked_more b bs true e ih = rw (e, one-add (prefix_len p bs)) ih
  unblanked_more b bs false e ih = subst (λ t. words_by p (b ∷ bs) ≡ words_by p (drop (cond t (1 + prefix_len p bs) 0) (b ∷ bs))) (sym e) refl

  unblanked : (line : List ℕ) → words_by p line ≡ words_by p (past line)
  unblanked [] = refl
  unblanked (b ∷ bs) = unblanked_more b bs (p b) refl (unblanked bs)

  none_begun : (bs : List ℕ) → Lettered bs → run bs ≡ 0 → words_by p bs ≡ []
  none_begun [] l e = refl
  none_begun (b ∷ bs) l e = let f : 1 + run bs ≡ 0 = ap (λ t. cond (not t) (1 + run bs) 0) (sym l) ∙ e in absurd (omega arith)

  worded : (bs : List ℕ) → Lettered bs → (run bs ≡ 0 → ⊥) → Begins bs
  worded [] l f = absurd (f refl)
  worded (b ∷ bs) l f = begins b bs l

  -- of a line with n letters in front, once its blanks are skipped
  pub none : (line u rest : List ℕ) (n : ℕ) → u ≡ past line → n ≡ run u → n ≡ 0 → rest ≡ drop n u → (words_by p line ≡ []) × (words_by p rest ≡ [])
  none line u rest n e f z r =
      let w : words_by p (past line) ≡ [] = none_begun (past line) (begun line) (sym (ap run e) ∙ sym f ∙ z) in
      (unblanked line ∙ w, ap (words_by p) (r ∙ ap (λ k. drop k u) z ∙ e) ∙ w)

  pub some : (line u w rest : List ℕ) (n : ℕ) → u ≡ past line → n ≡ run u → (n ≡ 0 → ⊥) → w ≡ take n u → rest ≡ drop n u → words_by p line ≡ w ∷ words_by p rest
  some line u w rest n e f z v r =
      unblanked line ∙ ap (words_by p) (sym e)
      ∙ worded u (subst Lettered (sym e) (begun line)) (λ k. z (f ∙ k))
      ∙ ap (λ k. take k u ∷ words_by p (drop k u)) (sym f)
      ∙ ap (λ k. k ∷ words_by p (drop n u)) (sym v) ∙ ap (λ k. w ∷ words_by p k) (sym r)

-- a line has no word where nothing follows its blanks
module _ (p : ℕ → Bool) where
  no_word : (bs : List ℕ) → Lettered p bs → wordless (words_by p bs) ≡ eqb (length bs) 0
  no_word [] l = refl
  no_word (b ∷ bs) l = ap wordless (begins p b bs l) ∙ sym (eqb-suc-zero (length bs))

  pub emptied : (line u : List ℕ) → u ≡ past p line → wordless (words_by p line) ≡ eqb (length u) 0
  emptied line u e = ap wordless (unblanked p line) ∙ no_word (past p line) (begun p line) ∙ ap (λ k. eqb (length k) 0) (sym e)

-- one word more is left out
pub dropped_more : (ws left after : List (List ℕ)) (i : ℕ) (r : Option (Bor (List ℕ))) → left ≡ drop i ws → MatchOption r ((left ≡ []) × (after ≡ [])) (λ w. left ≡ w.now ∷ after) → after ≡ drop (i + 1) ws
dropped_more ws left after i None e f = f.1 ∙ sym (ap (drop 1) f.0) ∙ ap (drop 1) e ∙ drop-drop 1 i ws
dropped_more ws left after i (Some w) e f = sym (ap (drop 1) f) ∙ ap (drop 1) e ∙ drop-drop 1 i ws
