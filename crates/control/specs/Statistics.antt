-- Quantity control and dominance, from the numbers of an attempt.
use Rattle.std.specs.Prelude.{ℕ, ◌-◌, ◌*◌, Bool, cond, not, ◌&&◌, ◌||◌, ℤ, pos, ◌-ℤ◌, ◌*ℤ◌, ◌==◌, int_lt, nat_lt, unsigned_abs}
use Rattle.method.specs.declared.verdict.Verdict.{Verdict}
use Rattle.method.specs.Verdicts.{fit_if}
use Rattle.control.specs.declared.tally.Tally.{Tally}

-- S S
abbrev pub square_of_sum : Tally → ℕ
square_of_sum t = unsigned_abs t.sum * unsigned_abs t.sum

-- V = N Q - S S
abbrev pub spread_of : Tally → ℤ
spread_of t = pos (t.squares * t.observations) -ℤ pos (square_of_sum t)

-- W = N D - 10,000 |S|
abbrev pub room_left : ℕ → Tally → ℤ
room_left d t = pos (t.observations * d) -ℤ pos (10000 * unsigned_abs t.sum)

-- u, 25 of Student's factor
abbrev pub student : ℕ → ℕ
student n = cond (nat_lt n 10) 150 (120 - n)

-- W > 0 and 160,000 u u V < W W (N - 1)
abbrev pub spread_leaves_room : ℕ → Tally → Bool
spread_leaves_room d t =
    int_lt (pos 0) (room_left d t)
    && int_lt (pos (160000 * (student t.observations * student t.observations)) *ℤ spread_of t) (pos (t.observations - 1) *ℤ (room_left d t *ℤ room_left d t))

-- unfit where an error was wild or there are not two observations; else fit exactly if S = 0 or the spread leaves room
abbrev pub quantity_verdict : ℕ → Tally → Verdict
quantity_verdict d t =
    fit_if
    (not (t.wild || nat_lt t.observations 2) && (unsigned_abs t.sum == 0 || spread_leaves_room d t))

-- no error was wild, and S S (N - 1) > 64 N V
abbrev pub dominant : Tally → Bool
dominant t = not t.wild && int_lt (pos (64 * t.observations) *ℤ spread_of t) (pos (t.observations - 1) *ℤ pos (square_of_sum t))
