use Rattle.std.proofs.Common.{arith, rules}
use Rattle.std.proofs.lemmas.Nat.{mul-le}
use Rattle.report.proofs.Sizes.{sizes, passed}
use Rattle.report.proofs.estimates.dispersion_of.Goals as goal

pub invariant_of-result : goal.invariant_of-result
invariant_of-result c =
    let f = c.args.fields.now in
    let h = sizes f (search rules) in
    let n = passed f.observations (search rules) in
    let s = passed f.sum (search rules) in
    let q = passed f.squares (search rules) in
    let most = mul-le c.from.result c.from-2.result 48 192000000 (omega arith) (omega arith) in
    record { two = omega arith; few = omega arith; small = omega arith; narrow = omega arith }

pub returns-in_err-spread-clause-test : goal.returns-in_err-spread-clause-test
returns-in_err-spread-clause-test c = search rules

pub returns-clause-test : goal.returns-clause-test
returns-clause-test c = search rules

pub returns-clause-numbers : goal.returns-clause-numbers
returns-clause-numbers c = search rules
