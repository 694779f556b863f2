use Rattle.std.proofs.Common.{◌≡◌, length, unwrap_or, drop, ap, ◌∙◌, rules, tests}
use Rattle.std.proofs.lemmas.List.{take_rest}
use Rattle.std.proofs.lemmas.Iterator.{YieldsList-from_slice}
use Rattle.std.proofs.lemmas.Iterator.Search.{position_from_yields_List}
use Rattle.std.specs.List.{position, prefix_len}
use Rattle.console.specs.Words.{blank, letter}
use Rattle.console.proofs.Fronts.{first_or_all, first_other}
use Rattle.console.proofs.words.skip_blanks.Goals as goal

pub returns-clause-is : goal.returns-clause-is
returns-clause-is c =
    let e : c.position-first.result ≡ position letter c.args.line.now = position_from_yields_List letter _ _ c.position-first.result c.position-first.ensures.ran (YieldsList-from_slice _ c.iter.ensures.rest) (λ x b q k. search (rules, tests)) in
    let n : c.unwrap_or.result ≡ prefix_len blank c.args.line.now =
    c.unwrap_or.ensures ∙ ap (λ o. unwrap_or o (length c.args.line.now)) e ∙ first_or_all letter c.args.line.now
    ∙ first_other blank c.args.line.now in take_rest c.args.line.now c.unwrap_or.result ∙ ap (λ k. drop k c.args.line.now) n
