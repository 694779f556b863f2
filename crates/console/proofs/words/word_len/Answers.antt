use Rattle.std.proofs.Common.{◌≡◌, ap, ◌∙◌, length, unwrap_or, rules, tests}
use Rattle.std.proofs.lemmas.Iterator.{YieldsList-from_slice}
use Rattle.std.proofs.lemmas.Iterator.Search.{position_from_yields_List}
use Rattle.std.specs.List.{position}
use Rattle.console.specs.Words.{blank}
use Rattle.console.proofs.Fronts.{first_or_all}
use Rattle.console.proofs.words.word_len.Goals as goal

pub returns-clause-is : goal.returns-clause-is
returns-clause-is c =
    let e : c.position.result ≡ position blank c.args.line.now = position_from_yields_List blank _ _ c.position.result c.position.ensures.ran (YieldsList-from_slice _ c.iter.ensures.rest) (λ x b q k. search (rules, tests)) in
    c.unwrap_or.ensures ∙ ap (λ o. unwrap_or o (length c.args.line.now)) e ∙ first_or_all blank c.args.line.now
