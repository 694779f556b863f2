-- Fields in a row of bits: put behind one another they are one number, and taken off it they are the same again.
use Rattle.std.specs.Prelude.{◌≡◌, ℕ, suc, ◌+◌, ◌-◌, ◌*◌, ◌/◌, ◌%◌, ◌^◌, ◌<◌, ◌≤◌, Bool, true, ◌&&◌, List, [], ◌∷◌, length, ℤ, refl}
use Rattle.std.proofs.Common.{sym, ap, ◌∙◌, arith, add-zero, zero-add, add_assoc, add-mul, mul_assoc, zero-mul}
use Rattle.std.proofs.Math.Arith.{digits_lt}
use Rattle.std.proofs.Math.Bool.{and_assoc, and-true}
use Rattle.std.proofs.lemmas.Nat.{pow-add, shl_whole, shl_below, shl-shr, shr_split, shr_high, mod_low, mod_below}
use Rattle.std.proofs.lemmas.Bool.{and_parts}
use Rattle.journal.specs.Bits.{packed_after, width}
use Rattle.journal.specs.Cursor.{put, put_all, first, behind, take_all, behind_all}
use Rattle.journal.specs.Fields.{in_range, all_in_range, coded, told}
use Rattle.journal.specs.Format.{stands, all_stand}
use Rattle.journal.specs.declared.field.Field.{Field}
use Rattle.journal.specs.declared.bits.Unpacking.{Unpacking}
use Rattle.journal.specs.Shifts.{shifted, coded_lt, first_below}
use Rattle.journal.specs.Codings.{stands_so, told_coded, coded_told}

-- as many numbers as fields
pub in_range_length : (fs : List Field) (zs : List ℤ) → all_in_range fs zs ≡ true → length zs ≡ length fs
in_range_length [] [] h = refl
in_range_length [] (z ∷ zs) h = let e : ◌≡◌ {A = ℕ} 0 1 = cc in absurd (omega arith)
in_range_length (f ∷ fs) [] h = let e : ◌≡◌ {A = ℕ} 0 1 = cc in absurd (omega arith)
in_range_length (f ∷ fs) (z ∷ zs) h = ap suc (in_range_length fs zs (and_parts (in_range f z) _ h).1)

pub packed_after_lt : (b n : ℕ) (fs : List Field) (zs : List ℤ) → n < 2 ^ b → length zs ≡ length fs → packed_after n fs zs < 2 ^ (b + width fs)
packed_after_lt b n [] zs h e = rw add-zero h
packed_after_lt b n (f ∷ fs) [] h e = absurd (omega arith)
packed_after_lt b n (f ∷ fs) (z ∷ zs) h e =
    let here : n * 2 ^ f.width + coded f.width z < 2 ^ (b + f.width) = rw (pow-add 2 b f.width) (digits_lt h (coded_lt f.width z)) in
    rw (← add_assoc b f.width (width fs)) (packed_after_lt (b + f.width) (n * 2 ^ f.width + coded f.width z) fs zs here (omega arith))

pub packed_lt : (fs : List Field) (zs : List ℤ) → length zs ≡ length fs → packed_after 0 fs zs < 2 ^ width fs
packed_lt fs zs e = rw zero-add at (packed_after_lt 0 0 fs zs (omega arith) e)

-- the first number stands above the others
after : (n : ℕ) (fs : List Field) (zs : List ℤ) → length zs ≡ length fs → packed_after n fs zs ≡ n * 2 ^ width fs + packed_after 0 fs zs
after n [] zs e = omega arith
after n (f ∷ fs) [] e = absurd (omega arith)
after n (f ∷ fs) (z ∷ zs) e =
    let w = f.width in
    let v = coded w z in
    let t = 2 ^ width fs in
    let here = after (n * 2 ^ w + v) fs zs (omega arith) in
    let there = after (0 * 2 ^ w + v) fs zs (omega arith) in
    let split : (n * 2 ^ w + v) * t ≡ n * 2 ^ w * t + v * t = add-mul (n * 2 ^ w) v t in
    let only : (0 * 2 ^ w + v) * t ≡ v * t = ap (λ x. x * t) (let z : 0 * 2 ^ w + v ≡ v = omega arith in z) in
    let high : n * 2 ^ w * t ≡ n * 2 ^ (w + width fs) = mul_assoc n (2 ^ w) t ∙ ap (λ x. n * x) (sym (pow-add 2 w (width fs))) in
    omega (arith, here, there, split, only, high)

above : (f : Field) (z : ℤ) (fs : List Field) (zs : List ℤ) → length zs ≡ length fs → packed_after 0 (f ∷ fs) (z ∷ zs) ≡ coded f.width z * 2 ^ width fs + packed_after 0 fs zs
above f z fs zs e = let n : 0 * 2 ^ f.width + coded f.width z ≡ coded f.width z = omega arith in ap (λ x. packed_after x fs zs) n ∙ after (coded f.width z) fs zs e

pub put_all_is : (fs : List Field) (zs : List ℤ) (n l k : ℕ) (r : Bool) → length zs ≡ length fs → n < 2 ^ k → k + width fs ≤ 128 → put_all fs zs (record { word = n; left = l; in_range = r }) ≡ record { word = packed_after n fs zs; left = l - width fs; in_range = r && all_in_range fs zs }
unfolding put
put_all_is [] [] n l k r e h le =
    ap (λ x. record { word = n; left = x; in_range = r }) (let z : l ≡ l - 0 = omega arith in z) ∙ ap (λ x. record { word = n; left = l - 0; in_range = x }) (sym (and-true r))
put_all_is [] (z ∷ zs) n l k r e h le = absurd (omega arith)
put_all_is (f ∷ fs) [] n l k r e h le = absurd (omega arith)
put_all_is (f ∷ fs) (z ∷ zs) n l k r e h le =
    let w = f.width in
    let v = coded w z in
    let word : (n * 2 ^ w) % 2 ^ 128 + v ≡ n * 2 ^ w + v = ap (λ x. x + v) (shl_whole n k w 128 h (omega arith)) in
    let here : n * 2 ^ w + v < 2 ^ (k + w) = rw (pow-add 2 k w) (digits_lt h (coded_lt w z)) in
    let rest = put_all_is fs zs (n * 2 ^ w + v) (l - w) (k + w) (r && in_range f z) (omega arith) here (omega arith) in
    let left : l - w - width fs ≡ l - (w + width fs) = omega arith in
    ap (λ x. put_all fs zs (record { word = x; left = l - w; in_range = r && in_range f z })) word ∙ rest ∙ ap (λ x. record { word = packed_after (n * 2 ^ w + v) fs zs; left = x; in_range = (r && in_range f z) && all_in_range fs zs }) left ∙ ap (λ x. record { word = packed_after (n * 2 ^ w + v) fs zs; left = l - (w + width fs); in_range = x }) (and_assoc r (in_range f z) (all_in_range fs zs))

-- 128 bits that begin with a row
head_is : (f : Field) (z : ℤ) (fs : List Field) (zs : List ℤ) → f.width + width fs ≤ 128 → length zs ≡ length fs → packed_after 0 (f ∷ fs) (z ∷ zs) * 2 ^ (128 - (f.width + width fs)) ≡ coded f.width z * 2 ^ (128 - f.width) + packed_after 0 fs zs * 2 ^ (128 - (f.width + width fs))
head_is f z fs zs le e =
    let w = f.width in
    let t = width fs in
    let k = 128 - (w + t) in
    let p : 2 ^ t * 2 ^ k ≡ 2 ^ (128 - w) = sym (pow-add 2 t k) ∙ ap (λ j. 2 ^ j) (let z : t + k ≡ 128 - w = omega arith in z) in
    ap (λ x. x * 2 ^ k) (above f z fs zs e) ∙ add-mul (coded w z * 2 ^ t) (packed_after 0 fs zs) (2 ^ k) ∙ ap (λ x. x + packed_after 0 fs zs * 2 ^ k) (mul_assoc (coded w z) (2 ^ t) (2 ^ k) ∙ ap (λ x. coded w z * x) p)

low_lt : (w : ℕ) (fs : List Field) (zs : List ℤ) → w + width fs ≤ 128 → length zs ≡ length fs → packed_after 0 fs zs * 2 ^ (128 - (w + width fs)) < 2 ^ (128 - w)
low_lt w fs zs le e =
    let z : width fs + (128 - (w + width fs)) ≡ 128 - w = omega arith in
    rw z at (shl_below (packed_after 0 fs zs) (width fs) (128 - (w + width fs)) (packed_lt fs zs e))

low_shifted : (w t n : ℕ) → w + t ≤ 128 → n * 2 ^ (128 - (w + t)) * 2 ^ w ≡ n * 2 ^ (128 - t)
low_shifted w t n le =
    let z : 128 - (w + t) + w ≡ 128 - t = omega arith in
    mul_assoc n (2 ^ (128 - (w + t))) (2 ^ w) ∙ ap (λ x. n * x) (sym (pow-add 2 (128 - (w + t)) w) ∙ ap (λ j. 2 ^ j) z)

-- the bits of a row's first field, and those behind it
pub code_first : (f : Field) (z : ℤ) (fs : List Field) (zs : List ℤ) (r : ℕ) → f.width + width fs ≤ 128 → length zs ≡ length fs → r ≡ packed_after 0 (f ∷ fs) (z ∷ zs) * 2 ^ (128 - (f.width + width fs)) → r / 2 ^ (128 - f.width) ≡ coded f.width z
code_first f z fs zs r le e is =
    ap (λ x. x / 2 ^ (128 - f.width)) (is ∙ head_is f z fs zs le e) ∙ shr_high (coded f.width z) (128 - f.width) (packed_after 0 fs zs * 2 ^ (128 - (f.width + width fs))) (low_lt f.width fs zs le e)

pub rest_behind : (f : Field) (z : ℤ) (fs : List Field) (zs : List ℤ) (r : ℕ) → f.width + width fs ≤ 128 → length zs ≡ length fs → r ≡ packed_after 0 (f ∷ fs) (z ∷ zs) * 2 ^ (128 - (f.width + width fs)) → (r * 2 ^ f.width) % 2 ^ 128 ≡ packed_after 0 fs zs * 2 ^ (128 - width fs)
rest_behind f z fs zs r le e is =
    let w = f.width in
    let low = packed_after 0 fs zs * 2 ^ (128 - (w + width fs)) in
    let under : r % 2 ^ (128 - w) ≡ low = ap (λ x. x % 2 ^ (128 - w)) (is ∙ head_is f z fs zs le e) ∙ mod_low (coded w z) (128 - w) low (low_lt w fs zs le e) in
    shifted r w (omega arith) ∙ ap (λ x. x * 2 ^ w) under ∙ low_shifted w (width fs) (packed_after 0 fs zs) le

-- and a row of that first field and of what stands behind it
pub row_of : (f : Field) (z : ℤ) (fs : List Field) (zs : List ℤ) (r : ℕ) → f.width + width fs ≤ 128 → length zs ≡ length fs → r / 2 ^ (128 - f.width) ≡ coded f.width z → (r * 2 ^ f.width) % 2 ^ 128 ≡ packed_after 0 fs zs * 2 ^ (128 - width fs) → r ≡ packed_after 0 (f ∷ fs) (z ∷ zs) * 2 ^ (128 - (f.width + width fs))
row_of f z fs zs r le e here rest =
    let w = f.width in
    let k = 128 - (w + width fs) in
    let n = packed_after 0 fs zs in
    let lower : r % 2 ^ (128 - w) ≡ n * 2 ^ k = sym (shl-shr (r % 2 ^ (128 - w)) w) ∙ ap (λ x. x / 2 ^ w) (sym (shifted r w (omega arith)) ∙ rest ∙ sym (low_shifted w (width fs) n le)) ∙ shl-shr (n * 2 ^ k) w in
    sym (head_is f z fs zs le e ∙ ap (λ x. x * 2 ^ (128 - w) + n * 2 ^ k) (sym here) ∙ ap (λ x. r / 2 ^ (128 - w) * 2 ^ (128 - w) + x) (sym lower) ∙ shr_split r (128 - w))

pub length_take_all : (fs : List Field) (b : Unpacking) → length (take_all fs b) ≡ length fs
length_take_all [] b = refl
length_take_all (f ∷ fs) b = ap suc (length_take_all fs (behind f b))

-- what is taken off a row is what was put there
pub taken : (fs : List Field) (zs : List ℤ) (r : ℕ) (q : Bool) → width fs ≤ 128 → all_stand fs ≡ true → all_in_range fs zs ≡ true → r ≡ packed_after 0 fs zs * 2 ^ (128 - width fs) → (take_all fs (record { word = r; in_range = q }) ≡ zs) × ((behind_all fs (record { word = r; in_range = q })).word ≡ 0)
unfolding first behind
taken [] [] r q le s h is = (refl, is ∙ zero-mul (2 ^ 128))
taken [] (z ∷ zs) r q le s h is = let e : ◌≡◌ {A = ℕ} 0 1 = cc in absurd (omega arith)
taken (f ∷ fs) [] r q le s h is = let e : ◌≡◌ {A = ℕ} 0 1 = cc in absurd (omega arith)
taken (f ∷ fs) (z ∷ zs) r q le s h is =
    let st = and_parts (stands f) (all_stand fs) s in
    let ra = and_parts (in_range f z) (all_in_range fs zs) h in
    let e = in_range_length fs zs ra.1 in
    let value : told f (r / 2 ^ (128 - f.width)) ≡ z = ap (told f) (code_first f z fs zs r le e is) ∙ told_coded f z (stands_so f st.0) ra.0 in
    let rest = taken fs zs ((r * 2 ^ f.width) % 2 ^ 128) (q && in_range f (told f (r / 2 ^ (128 - f.width)))) (omega arith) st.1 ra.1 (rest_behind f z fs zs r le e is) in
    (rw (rest.0, value) refl, rest.1)

-- 128 bits with nothing behind a row are those of its numbers
pub only : (fs : List Field) (r : ℕ) (q : Bool) → width fs ≤ 128 → r < 2 ^ 128 → (behind_all fs (record { word = r; in_range = q })).word ≡ 0 → r ≡ packed_after 0 fs (take_all fs (record { word = r; in_range = q })) * 2 ^ (128 - width fs)
unfolding first behind
only [] r q le h e = e ∙ sym (zero-mul (2 ^ 128))
only (f ∷ fs) r q le h e =
    let r' = (r * 2 ^ f.width) % 2 ^ 128 in
    let c = r / 2 ^ (128 - f.width) in
    let q' = q && in_range f (told f c) in
    let b : Unpacking = record { word = r'; in_range = q' } in
    let rest = only fs r' q' (omega arith) (mod_below (r * 2 ^ f.width) (2 ^ 128) (omega arith)) e in
    row_of f (told f c) fs (take_all fs b) r le (length_take_all fs b) (sym (coded_told f c (first_below r f.width (omega arith) h))) rest

-- the flag tells whether each number that was taken was in its range
pub flagged : (fs : List Field) (b : Unpacking) → (behind_all fs b).in_range ≡ b.in_range && all_in_range fs (take_all fs b)
unfolding first behind
flagged [] b = sym (and-true b.in_range)
flagged (f ∷ fs) b =
    flagged fs (behind f b) ∙ and_assoc b.in_range (in_range f (told f (b.word / 2 ^ (128 - f.width)))) (all_in_range fs (take_all fs (behind f b)))
