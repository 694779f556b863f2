-- The bytes of a number.
use Rattle.std.proofs.Common.{◌≡◌, ℕ, zero, suc, ◌+◌, ◌-◌, ◌*◌, ◌/◌, ◌%◌, ◌^◌, ◌<◌, ◌≤◌, List, [], ◌∷◌, ◌++◌, length, get_or, take, drop, sym, refl, ap, ◌∙◌, zero-add, add-one, add-zero, mul_assoc, arith, replicate}
use Rattle.std.proofs.Math.Nat.{pow-suc}
use Rattle.std.specs.Int.{w128, bytes_high_first, from_be_bytes, to_be_bytes}
use native.Mathlib.Nat.{div-div-eq-div-mul}
use lib.Arith.{digits_lt}
use Rattle.std.proofs.lemmas.Nat.{pow-add, shr_below, shr-shr, div-mul-add}
use Rattle.std.proofs.lemmas.List.{length-take-le, take-append-drop, take_rest, take_more, get_or_append_left, get_or_at, get_or-append-add, get_or-take, get_or-drop, get_or-replicate}
use Rattle.journal.specs.Bits.{bytes_of, word_of}

powers : (k : ℕ) → 256 ^ k ≡ 2 ^ (8 * k)
powers zero = refl
powers (suc k) =
    let e : 8 * suc k ≡ 8 * k + 8 = omega arith in
    pow-suc 256 k ∙ ap (λ x. x * 256) (powers k) ∙ sym (ap (λ i. 2 ^ i) e ∙ pow-add 2 (8 * k) 8)

pub length_bytes_of : (k n : ℕ) → length (bytes_of k n) ≡ k
length_bytes_of zero n = refl
length_bytes_of (suc k) n = ap suc (length_bytes_of k n)

pub getD_bytes_of : (k n i : ℕ) → i < k → get_or (bytes_of k n) i 0 ≡ (n / 2 ^ (8 * (k - 1 - i))) % 256
getD_bytes_of zero n i h = absurd (omega arith)
getD_bytes_of (suc k) n zero h = ap (λ j. (n / 2 ^ (8 * j)) % 256) (omega arith)
getD_bytes_of (suc k) n (suc i) h = getD_bytes_of k n i (omega arith) ∙ ap (λ j. (n / 2 ^ (8 * j)) % 256) (omega arith)

-- the last k of the bytes that std writes a number in
high_first : (k n : ℕ) → bytes_high_first k n ≡ bytes_of k n
high_first zero n = refl
high_first (suc zero) n = ap (λ x. x % 256 ∷ []) (let e : n ≡ n / 1 = omega arith in e)
high_first (suc (suc k)) n = rw (high_first (suc k) n) (ap (λ p. (n / p) % 256 ∷ bytes_of (suc k) n) (powers (suc k)))

last_bytes : (j k n : ℕ) → drop j (bytes_high_first (j + k) n) ≡ bytes_of k n
last_bytes zero k n = ap (λ i. bytes_high_first i n) (zero-add k) ∙ high_first k n
last_bytes (suc j) k n = ap (λ i. drop (suc j) (bytes_high_first i n)) (let e : suc j + k ≡ suc (j + k) = omega arith in e) ∙ last_bytes j k n

pub low_bytes : (k n : ℕ) → k ≤ 16 → take (16 - (16 - k)) (drop (16 - k) (to_be_bytes w128 n)) ≡ bytes_of k n
low_bytes k n le =
    let e : 16 ≡ 16 - k + k = omega arith in
    take_rest (bytes_high_first 16 n) (16 - k) ∙ ap (λ i. drop (16 - k) (bytes_high_first i n)) e ∙ last_bytes (16 - k) k n

-- one byte more at the end
byte_above : (k n b : ℕ) → b < 256 → ((n * 256 + b) / 2 ^ (8 * suc k)) % 256 ≡ (n / 2 ^ (8 * k)) % 256
byte_above k n b h =
    let p : 2 ^ (8 * suc k) ≡ 256 * 2 ^ (8 * k) = ap (λ e. 2 ^ e) (let e : 8 * suc k ≡ 8 + 8 * k = omega arith in e) ∙ pow-add 2 8 (8 * k) in
    ap (λ q. ((n * 256 + b) / q) % 256) p ∙ ap (λ q. q % 256) (sym (div-div-eq-div-mul (n * 256 + b) 256 (2 ^ (8 * k))) ∙ ap (λ q. q / 2 ^ (8 * k)) (div-mul-add n 256 b h))

pub bytes_of_push : (k n b : ℕ) → b < 256 → bytes_of (suc k) (n * 256 + b) ≡ bytes_of k n ++ (b ∷ [])
bytes_of_push zero n b h = ap (λ x. x ∷ []) (let e : ((n * 256 + b) / 1) % 256 ≡ b = omega arith in e)
bytes_of_push (suc k) n b h = rw (byte_above k n b h) (ap (λ t. (n / 2 ^ (8 * k)) % 256 ∷ t) (bytes_of_push k n b h))

-- the bytes of the number that bytes are
pub bytes_of_word_of : (k : ℕ) (bs : List ℕ) → k ≤ length bs → ((i : ℕ) → get_or bs i 0 < 256) → bytes_of k (word_of k bs) ≡ take k bs
bytes_of_word_of zero bs le small = refl
bytes_of_word_of (suc k) bs le small =
    bytes_of_push k (word_of k bs) (get_or bs k 0) (small k) ∙ ap (λ t. t ++ (get_or bs k 0 ∷ [])) (bytes_of_word_of k bs (omega arith) small) ∙ sym (rw add-one at (take_more bs k 0 (omega arith)))

-- bytes as std reads them, and with zeros behind them
big_endian_is : (bs : List ℕ) → from_be_bytes w128 bs ≡ word_of 16 bs
big_endian_is bs = omega arith

pub word_of_append : (k : ℕ) (xs ys : List ℕ) → k ≤ length xs → word_of k (xs ++ ys) ≡ word_of k xs
word_of_append zero xs ys le = refl
word_of_append (suc k) xs ys le = rw (word_of_append k xs ys (omega arith), get_or_append_left xs ys 0 k (omega arith)) refl

pub word_of_take : (k : ℕ) (bs : List ℕ) → k ≤ length bs → word_of k (take k bs) ≡ word_of k bs
word_of_take k bs le = sym (word_of_append k (take k bs) (drop k bs) (omega (arith, length-take-le k bs le))) ∙ ap (word_of k) (take-append-drop k bs)

padded : (bs zs : List ℕ) (j : ℕ) → ((i : ℕ) → i < j → get_or zs i 0 ≡ 0) → word_of (length bs + j) (bs ++ zs) ≡ word_of (length bs) bs * 2 ^ (8 * j)
padded bs zs zero none = ap (λ k. word_of k (bs ++ zs)) (add-zero (length bs)) ∙ word_of_append (length bs) bs zs (omega arith) ∙ (let e : word_of (length bs) bs ≡ word_of (length bs) bs * 1 = omega arith in e)
padded bs zs (suc j) none =
    let e : length bs + suc j ≡ suc (length bs + j) = omega arith in
    let last : get_or (bs ++ zs) (length bs + j) 0 ≡ 0 = get_or-append-add bs zs j 0 ∙ none j (omega arith) in
    let here = padded bs zs j (λ i lt. none i (omega arith)) in
    let p : 2 ^ (8 * suc j) ≡ 2 ^ (8 * j) * 256 = ap (λ i. 2 ^ i) (let i : 8 * suc j ≡ 8 * j + 8 = omega arith in i) ∙ pow-add 2 (8 * j) 8 in
    ap (λ k. word_of k (bs ++ zs)) e ∙ (let sum : word_of (length bs + j) (bs ++ zs) * 256 + get_or (bs ++ zs) (length bs + j) 0 ≡ word_of (length bs) bs * 2 ^ (8 * j) * 256 = omega (arith, here, last) in sum) ∙ mul_assoc (word_of (length bs) bs) (2 ^ (8 * j)) 256 ∙ ap (λ x. word_of (length bs) bs * x) (sym p)

-- the number of bytes at the head of sixteen, but for their first four bits
pub headed_bytes : (bs : List ℕ) → length bs ≤ 16 → from_be_bytes w128 (bs ++ drop (length bs) (replicate 16 0)) * 16 ≡ word_of (length bs) bs * 2 ^ (132 - 8 * length bs)
headed_bytes bs le =
    let k = length bs in
    let j = 16 - k in
    let all = bs ++ drop k (replicate 16 0) in
    let sixteen : 16 ≡ k + j = omega arith in
    let none : (i : ℕ) → i < j → get_or {A = ℕ} (drop k (replicate 16 0)) i 0 ≡ 0 = λ i lt. get_or-drop k (replicate 16 0) i 0 ∙ get_or-replicate {A = ℕ} 16 (k + i) 0 0 (omega arith) in
    let whole : from_be_bytes w128 all ≡ word_of k bs * 2 ^ (8 * j) = big_endian_is all ∙ ap (λ i. word_of i all) sixteen ∙ padded bs (drop k (replicate 16 0)) j none in
    ap (λ x. x * 16) whole ∙ mul_assoc (word_of k bs) (2 ^ (8 * j)) 16 ∙ ap (λ x. word_of k bs * x) (sym (pow-add 2 (8 * j) 4) ∙ ap (λ i. 2 ^ i) (let e : 8 * j + 4 ≡ 132 - 8 * k = omega arith in e))

-- bytes with zeros in front of them
zeros : (k : ℕ) (zs : List ℕ) → ((i : ℕ) → i < k → get_or zs i 0 ≡ 0) → word_of k zs ≡ 0
zeros zero zs none = refl
zeros (suc k) zs none = omega (arith, zeros k zs (λ i lt. none i (omega arith)), none k (omega arith))

behind_zeros : (zs bs : List ℕ) (k : ℕ) → ((i : ℕ) → i < length zs → get_or zs i 0 ≡ 0) → word_of (length zs + k) (zs ++ bs) ≡ word_of k bs
behind_zeros zs bs zero none = ap (λ i. word_of i (zs ++ bs)) (add-zero (length zs)) ∙ word_of_append (length zs) zs bs (omega arith) ∙ zeros (length zs) zs none
behind_zeros zs bs (suc k) none =
    let e : length zs + suc k ≡ suc (length zs + k) = omega arith in
    let here = behind_zeros zs bs k none in
    ap (λ i. word_of i (zs ++ bs)) e ∙ ap (λ x. word_of (length zs + k) (zs ++ bs) * 256 + x) (get_or-append-add zs bs k 0) ∙ ap (λ x. x * 256 + get_or bs k 0) here

-- the number of bytes that are put at the end of sixteen
pub tailed_bytes : (bs ys : List ℕ) → length bs ≤ 16 → from_be_bytes w128 (take (16 - length bs) (replicate 16 0) ++ (bs ++ ys)) ≡ word_of (length bs) bs
tailed_bytes bs ys le = tail (take (16 - length bs) (replicate {A = ℕ} 16 0)) len (λ i lt. get_or-take (16 - length bs) (replicate 16 0) i 0 (omega (arith, len)) ∙ get_or-replicate {A = ℕ} 16 i 0 0 (omega (arith, len)))
  where
    len : length (take (16 - length bs) (replicate {A = ℕ} 16 0)) ≡ 16 - length bs
    len = length-take-le (16 - length bs) (replicate {A = ℕ} 16 0) (omega arith)

    tail : (zs : List ℕ) → length zs ≡ 16 - length bs → ((i : ℕ) → i < length zs → get_or zs i 0 ≡ 0) → from_be_bytes w128 (zs ++ (bs ++ ys)) ≡ word_of (length bs) bs
    tail zs is none =
        let sixteen : 16 ≡ length zs + length bs = omega (arith, is) in
        big_endian_is (zs ++ (bs ++ ys)) ∙ ap (λ i. word_of i (zs ++ (bs ++ ys))) sixteen ∙ behind_zeros zs (bs ++ ys) (length bs) none ∙ word_of_append (length bs) bs ys (omega arith)

-- the number that the bytes of a number are
pub word_of_bytes_of : (k n : ℕ) → n < 2 ^ (8 * k) → word_of k (bytes_of k n) ≡ n
word_of_bytes_of zero n h = omega arith
word_of_bytes_of (suc k) n h =
    let n_is : n ≡ n / 256 * 256 + n % 256 = omega arith in
    let push : bytes_of (suc k) n ≡ bytes_of k (n / 256) ++ (n % 256 ∷ []) = ap (bytes_of (suc k)) n_is ∙ bytes_of_push k (n / 256) (n % 256) (omega arith) in
    let len = length_bytes_of k (n / 256) in
    let e : 8 * suc k ≡ 8 * k + 8 = omega arith in
    let below : n / 256 < 2 ^ (8 * k) = shr_below n (8 * k) 8 (rw e at h) in
    let front = word_of_append k (bytes_of k (n / 256)) (n % 256 ∷ []) (omega (arith, len)) ∙ word_of_bytes_of k (n / 256) below in
    let last = get_or_at (bytes_of k (n / 256)) (n % 256) [] 0 k len in
    ap (word_of (suc k)) push ∙ ap (λ x. x * 256 + get_or (bytes_of k (n / 256) ++ (n % 256 ∷ [])) k 0) front ∙ ap (λ x. n / 256 * 256 + x) last ∙ sym n_is

pub word_of_lt : (k : ℕ) (bs : List ℕ) → ((i : ℕ) → get_or bs i 0 < 256) → word_of k bs < 2 ^ (8 * k)
word_of_lt zero bs small = omega arith
word_of_lt (suc k) bs small =
    let e : 8 * suc k ≡ 8 * k + 8 = omega arith in
    rw (e, pow-add 2 (8 * k) 8) (digits_lt (word_of_lt k bs small) (small k))

-- the first byte stands above the others
pub word_of_top : (k : ℕ) (bs : List ℕ) → ((i : ℕ) → i < suc k → get_or bs i 0 < 256) → word_of (suc k) bs / 2 ^ (8 * k) ≡ get_or bs 0 0
word_of_top zero bs small = let e : (0 * 256 + get_or bs 0 0) / 1 ≡ get_or bs 0 0 = omega arith in e
word_of_top (suc k) bs small =
    let e : 8 * suc k ≡ 8 + 8 * k = omega arith in
    ap (λ j. (word_of (suc k) bs * 256 + get_or bs (suc k) 0) / 2 ^ j) e ∙ sym (shr-shr (word_of (suc k) bs * 256 + get_or bs (suc k) 0) 8 (8 * k)) ∙ ap (λ x. x / 2 ^ (8 * k)) (div-mul-add (word_of (suc k) bs) 256 (get_or bs (suc k) 0) (small (suc k) (omega arith))) ∙ word_of_top k bs (λ i lt. small i (omega arith))
