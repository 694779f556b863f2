use Rattle.std.proofs.Common.{◌≡◌, ℕ, List, ◌++◌, get_or, Some, vec_items, Option, sym, ap, ◌∙◌, arith}
use Rattle.std.proofs.lemmas.List.{take_all}
use Rattle.std.proofs.lemmas.List.Sums.{fold_more}
use Rattle.std.specs.Option.{option_to_list}
use Rattle.report.specs.Hex.{Read, Refuses, fault_of, read_more, read_none, read_all, step_of}
use Rattle.report.specs.declared.scan.Scan.{Scan}
use Rattle.report.specs.declared.scan.Step.{Step}
use Rattle.report.specs.declared.scan.HexError.{HexError}
use Rattle.report.specs.declared.scan.HexError.TheVariants.{NotHex, OddDigits, NoMemory}
use Rattle.report.proofs.hex.bytes_of_hex.Goals as goal

-- an error that the text has refuses it
refuses : (f : Option HexError) (e : HexError) → f ≡ Some e → Refuses f e
refuses f NotHex h = h
refuses f OddDigits h = h
refuses f NoMemory h = tt

abbrev read_at : Scan → List ℕ → Read
read_at s xs = record { scan = s; bytes = xs }

abbrev grown : Step → List ℕ → Read
grown t xs = read_at t.scan (xs ++ option_to_list t.byte)

-- one byte of the text more
moved : {r : Read} {s : Scan} {xs ys : List ℕ} {t : Step} (b : ℕ) → r ≡ record { scan = s; bytes = xs } → t ≡ step_of s b → ys ≡ xs ++ option_to_list t.byte → read_more r b ≡ record { scan = t.scan; bytes = ys }
moved {xs = xs} {t = t} b e f g =
    ap (λ (d : Read). read_more d b) e
    ∙ (ap (λ (u : Step). grown u xs) (sym f) ∙ ap (λ (l : List ℕ). read_at t.scan l) (sym g))

pub loop-b-preserved : goal.loop-b-preserved
loop-b-preserved c =
    let m = fold_more read_more read_none c.args.text.now c.loop-b.b-index 0 (omega arith) in
    let k = c.in_ok-keep.ensures in
    m ∙ moved (get_or c.args.text.now c.loop-b.b-index 0) c.loop-b.invariant c.advance-next.ensures k

pub returns-in-Some : goal.returns-in-Some
returns-in-Some c =
    let e = take_all c.loop-b.b-index c.args.text.now (omega arith) in
    let r : read_all c.args.text.now ≡ record { scan = c.loop-b.scan; bytes = vec_items c.loop-b.bytes } = ap read_all (sym e) ∙ c.loop-b.invariant in
    refuses _ _ (ap (λ (d : Read). fault_of d.scan) r ∙ sym c.fault_of.ensures ∙ c.in-Some.is)

pub returns-in-None : goal.returns-in-None
returns-in-None c =
    let e = take_all c.loop-b.b-index c.args.text.now (omega arith) in
    let r : read_all c.args.text.now ≡ record { scan = c.loop-b.scan; bytes = vec_items c.loop-b.bytes } = ap read_all (sym e) ∙ c.loop-b.invariant in
    (ap (λ (d : Read). fault_of d.scan) r ∙ sym c.fault_of.ensures ∙ c.in-None.is, sym (ap (λ (d : Read). d.bytes) r))
