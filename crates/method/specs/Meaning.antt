-- What a plan means: its answers as functions of the observation number.
use Rattle.std.specs.Prelude.{◌≡◌, ℕ, ◌+◌, ◌-◌, ◌*◌, ◌≤◌, Bool, false, cond, ◌&&◌, ℤ, pos, negsuc, ◌≤ℤ◌, nat_le}
use Rattle.std.proofs.Math.IntN.{sub_ℕ}

pub record Meaning : Type 0 where
  pub cut : ℕ
  pub cut_number : ℕ
  pub accept : ℕ → ℤ
  pub reject : ℕ → ℕ
  pub offset : ℕ → ℤ
  pub margin : ℕ
  pub trapezoid : ℕ
  pub uniform : ℕ

-- i is an observation of a plan with that cut
abbrev pub within : ℕ → ℕ → Bool
within cut i = nat_le 1 i && nat_le i cut

-- f up to the cut, and what stands for no answer outside it
abbrev pub up_to : {A : Type 0} → ℕ → A → (ℕ → A) → ℕ → A
up_to cut nothing f i = cond (within cut i) (f i) nothing

-- accept none, reject none, no offset
abbrev pub no_accept : ℤ
no_accept = negsuc 0

abbrev pub no_reject : ℕ
no_reject = 49

abbrev pub no_offset : ℤ
no_offset = pos 0

-- the offset with its peak p at observation 2p: p - |2p - i|
abbrev pub peaked : ℕ → ℕ → ℤ
peaked p i = sub_ℕ p ((2 * p - i) + (i - 2 * p))

-- the ranges in which every plan's answers lie
pub record Ranged (m : Meaning) : Type 0 where
  pub cut_low : 2 ≤ m.cut
  pub cut_high : m.cut ≤ 48
  pub cut_number_high : m.cut_number ≤ m.cut
  pub accept_low : (i : ℕ) → negsuc 0 ≤ℤ m.accept i
  pub accept_high : (i : ℕ) → m.accept i ≤ℤ pos 48
  pub reject_high : (i : ℕ) → m.reject i ≤ 49
  pub offset_low : (i : ℕ) → negsuc 47 ≤ℤ m.offset i
  pub offset_high : (i : ℕ) → m.offset i ≤ℤ pos 48
  pub margin_high : m.margin ≤ 100000
  pub trapezoid_high : m.trapezoid ≤ 9999
  pub uniform_high : m.uniform ≤ 9999
  pub outside_accept : (i : ℕ) → within m.cut i ≡ false → m.accept i ≡ no_accept
  pub outside_reject : (i : ℕ) → within m.cut i ≡ false → m.reject i ≡ no_reject
  pub outside_offset : (i : ℕ) → within m.cut i ≡ false → m.offset i ≡ no_offset
