-- Worked examples: what the method says of a list of calls. P is 100 and E is 20 tenths, the agreement one step.
use Rattle.std.specs.Prelude.{◌≡◌, ℕ, true, false, List, [], ◌∷◌, ◌++◌, replicate, ℤ, pos, negsuc, Some, None}
use Rattle.method.specs.Meaning.{Meaning}
use Rattle.method.specs.Plans.{normal_control, strengthened_control, three_step}
use Rattle.method.specs.declared.verdict.Verdict.TheVariants.{Fit, Unfit}
use Rattle.point.specs.Bounds.{trial_of}
use Rattle.point.specs.Phases.{reached}
use Rattle.point.specs.declared.phase.Before.TheVariants.{SequenceAlone, ShortUnfit}
use Rattle.point.specs.declared.phase.Carried.{Carried}
use Rattle.point.specs.declared.phase.Control.TheVariants.{Full, Reduced}
use Rattle.point.specs.declared.phase.Course.TheVariants.{Main, Short}
use Rattle.point.specs.declared.phase.Phase.{Phase}
use Rattle.point.specs.declared.phase.PlanUsed.TheVariants as used
use Rattle.point.specs.declared.setting.Setting.{Setting}
use Rattle.runs.specs.Judged.{judged, over, parted}
use Rattle.runs.specs.declared.call.Call.{Call}
use Rattle.runs.specs.declared.call.Call.TheVariants.{Code, Late}

abbrev pub at : ℤ → Setting
at signal = record { signal = signal; meter = 100; reference = 20; agreement = 1 }

abbrev pub none_found : Carried
none_found = record { dominance = false; next = used.Main }

abbrev pub dominance_found : Carried
dominance_found = record { dominance = true; next = used.Short }

-- a laboratory's plan: three steps, and another coefficient after a dominance
abbrev pub own_plan : Meaning
own_plan = record {
  cut = three_step.cut;
  cut_number = three_step.cut_number;
  accept = three_step.accept;
  reject = three_step.reject;
  offset = three_step.offset;
  margin = three_step.margin;
  trapezoid = 8000;
  uniform = 9000;
}

abbrev pub strong : List Call → Phase
strong cs = judged strengthened_control three_step Full none_found (at (pos 0)) cs

abbrev pub normal : List Call → Phase
normal cs = judged normal_control three_step Full none_found (at (pos 0)) cs

abbrev pub own : List Call → Phase
own cs = judged own_plan three_step Full none_found (at (pos 2)) cs

abbrev pub reduced : List Call → Phase
reduced cs = judged normal_control three_step Reduced dominance_found (at (pos 0)) cs

abbrev pub zeros : ℕ → List Call
zeros n = replicate n (Code (pos 0))

-- Errors -71 to -79 and then 80 to 75: all in tolerance, so the sequence is fit at 15. S = -675 + 465 = -210,
-- Q = 50,685 + 36,055 = 86,740, V = 1,257,000, W = 15 x 877,460 - 2,100,000 = 11,061,900, u = 105:
-- 160,000 u u V is about 2.2 x 10^15, W W 14 about 1.7 x 10^15, so the quantity is unfit. S S 14 is far below 64 x 15 V: no dominance.
abbrev pub spread_out : List Call
spread_out = replicate 9 (Code (negsuc 7)) ++ replicate 6 (Code (pos 8))

-- At levels -3, 2 and 7 the errors are 73, 78 and 73, all in tolerance of D = 1,000,000 - 8,000 x 20 = 840,000. S = 224,
-- Q = 16,742, V = 50, W = 280,000, u = 150: 1.8 x 10^11 is not below 1.568 x 10^11, so the quantity is unfit.
-- S S 2 = 100,352 is above 64 x 3 x 50 = 9,600: dominance, and the second attempt has D = 1,000,000 - 9,000 x 20 = 820,000.
abbrev pub one_sided : List Call
one_sided = Code (pos 7) ∷ Code (pos 8) ∷ Code (pos 8) ∷ []

pub record Examples : Type 0 where
  -- 10, 11, 12 do not agree within one step, and 11, 12, 12 do
  pub settled_by_fourth : parted 1 [] (Code (pos 10) ∷ Code (pos 11) ∷ Code (pos 12) ∷ Code (pos 12) ∷ Code (pos 5) ∷ []) ≡ over 4 (pos 5 ∷ [])
  -- settling is cut short once; a second time it has no effect, nor has a code that is not legal
  pub settled_late : parted 1 [] (Code (pos 10) ∷ Late ∷ Code (pos 3) ∷ Late ∷ Code (pos 2000000) ∷ []) ≡ over 1 (pos 3 ∷ [])
  -- codes of 0 leave the offsets with the other sign: -10 to 11, then 10, 9, 8. S = -38, Q = 891 + 245 = 1,136
  pub fit_at_25 : reached (strong (Late ∷ zeros 25)) ≡ Some Fit
  pub not_at_24 : reached (strong (Late ∷ zeros 24)) ≡ None
  pub numbers_at_25 : (trial_of (strong (Late ∷ zeros 25))).tally ≡ record { observations = 25; outs = 0; sum = negsuc 37; squares = 1136; wild = false }
  pub tolerance_at_25 : (trial_of (strong (Late ∷ zeros 25))).width ≡ 824500
  -- a second attempt follows, and decides
  pub second_due : (trial_of (normal (Late ∷ spread_out))).course ≡ Main (SequenceAlone 15)
  pub second_same_tolerance : (trial_of (normal (Late ∷ spread_out))).width ≡ 877460
  pub second_fit : reached (normal (Late ∷ spread_out ++ zeros 15)) ≡ Some Fit
  -- a second attempt whose tolerance is another, by the dominance found in the first
  pub first_tolerance : (trial_of (own (Late ∷ []))).width ≡ 840000
  pub second_due_own : (trial_of (own (Late ∷ one_sided))).course ≡ Main (SequenceAlone 3)
  pub second_tolerance : (trial_of (own (Late ∷ one_sided))).width ≡ 820000
  -- the same errors are out of the narrower tolerance: 78 in tenths and the margin pass 820,000, so at 2 it is unfit
  pub second_unfit : reached (own (Late ∷ one_sided ++ one_sided)) ≡ Some Unfit
  -- a short attempt that is fit decides
  pub short_fit : reached (reduced (Late ∷ zeros 3)) ≡ Some Fit
  pub short_decides : (trial_of (reduced (Late ∷ zeros 3))).course ≡ Short
  -- an error of 95 makes it unfit at 1, and a main attempt with the uniform coefficient decides
  pub main_follows : (trial_of (reduced (Late ∷ Code (pos 9) ∷ []))).course ≡ Main (ShortUnfit 1)
  pub main_tolerance : (trial_of (reduced (Late ∷ Code (pos 9) ∷ []))).width ≡ 840000
  pub main_decides : reached (reduced (Late ∷ Code (pos 9) ∷ zeros 15)) ≡ Some Fit
