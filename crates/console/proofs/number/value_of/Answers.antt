use Rattle.std.proofs.Common.{◌≡◌, fold, sym, ◌∙◌, arith, rules}
use Rattle.console.proofs.DigitSteps.{saturated_fold, saturated_step}
use Rattle.console.specs.Numbers.{saturated_value}
use Rattle.console.proofs.number.value_of.Goals as goal

pub returns : goal.returns
returns c =
    let e : c.fold.result ≡ fold saturated_step 0 c.args.word.now = search rules in
    let is : c.fold.result ≡ saturated_value c.args.word.now = e ∙ sym (saturated_fold c.args.word.now 0) in
    record { is = is; small = omega arith }
