-- Truncation, the standard controls, and three-step control.
use Rattle.std.specs.Prelude.{◌≡◌, ℕ, ◌*◌, cond, ℤ, pos, ◌==◌}
use Rattle.std.proofs.Math.IntN.{sub_ℕ}
use Rattle.method.specs.Lines.{line, numbers_of}
use Rattle.method.specs.Meaning.{Meaning, up_to, no_accept, no_reject, no_offset}
use Rattle.method.specs.declared.line.Line.{Line}
use Rattle.method.specs.declared.line.Line.TheVariants.{Strengthened, Normal}

-- a cut and a cut number of its own; the other answers pass up to that cut
abbrev pub truncated : Meaning → ℕ → ℕ → Meaning
truncated m cut number = record {
  cut = cut;
  cut_number = number;
  accept = up_to cut no_accept m.accept;
  reject = up_to cut no_reject m.reject;
  offset = up_to cut no_offset m.offset;
  margin = m.margin;
  trapezoid = m.trapezoid;
  uniform = m.uniform;
}

-- a truncation that was asked for holds the plan p and the numbers c and n
abbrev pub Holds : {P : Type 0} → P → ℤ → ℤ → P → ℕ → ℕ → Type 0
Holds plan cut number p c n = (p ≡ plan) × (pos c ≡ cut) × (pos n ≡ number)

-- the same answers at every observation number
pub record Alike (m w : Meaning) : Type 0 where
  pub cut : m.cut ≡ w.cut
  pub cut_number : m.cut_number ≡ w.cut_number
  pub accept : (i : ℕ) → m.accept i ≡ w.accept i
  pub reject : (i : ℕ) → m.reject i ≡ w.reject i
  pub offset : (i : ℕ) → m.offset i ≡ w.offset i
  pub margin : m.margin ≡ w.margin
  pub trapezoid : m.trapezoid ≡ w.trapezoid
  pub uniform : m.uniform ≡ w.uniform

abbrev pub strengthened_control : Meaning
strengthened_control = truncated (line (numbers_of Strengthened)) 44 2

abbrev pub normal_control : Meaning
normal_control = truncated (line (numbers_of Normal)) 40 4

-- the standard control by each line
abbrev pub standard_control : Line → Meaning
standard_control Strengthened = strengthened_control
standard_control Normal = normal_control

-- accept numbers -1, -1, 0; reject number 1; offsets -5, 0, 5
abbrev pub three_step : Meaning
three_step = record {
  cut = 3;
  cut_number = 0;
  accept = up_to 3 no_accept (λ i. cond (i == 3) (pos 0) no_accept);
  reject = up_to 3 no_reject (λ i. 1);
  offset = up_to 3 no_offset (λ i. sub_ℕ (5 * i) 10);
  margin = 50001;
  trapezoid = 8000;
  uniform = 8000;
}
