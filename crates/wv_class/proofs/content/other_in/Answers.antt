use Rattle.std.proofs.Common.{◌≡◌, ◌∙◌, ◌≤◌, List, ℕ, length, take, drop, subst, sym, arith}
use Rattle.std.proofs.lemmas.List.{take-append-drop, length-take-le}
use Rattle.wv_base.specs.declared.class_file.PoolEntry.{PoolEntry}
use Rattle.wv_class.specs.declared.raw_class.Kind.TheVariants as kinds
use Rattle.wv_class.specs.declared.raw_class.Content.TheVariants as contents
use Rattle.wv_class.specs.Contents.{SpellsSized}
use Rattle.wv_class.specs.Reading.{Taken}
use Rattle.wv_code.proofs.Numbers.{are_bytes, are_take}
use Rattle.wv_class.proofs.PlainContents.{other_stops, other_takes}
use Rattle.wv_class.proofs.content.other_in.Goals as goal

pub returns-then-missing-gt0 : goal.returns-then-missing-gt0
returns-then-missing-gt0 c = λ pool. other_stops pool c.args.len c.args.bytes.now (are_bytes c.args.bytes.now (λ i. omega (arith, c.type_inv.bytes i))) (omega (arith, c.if-missing-gt0.true, c.cut-missing.ensures.missing))

pub returns : goal.returns
returns c = λ pool.
    let long : c.args.len ≤ length c.args.bytes.now = omega (arith, c.if-missing-gt0.false, c.cut-missing.ensures.missing) in
    rw (c.in_ok-from_slice.ensures, c.cut-missing.ensures.front, c.cut-missing.ensures.rest)
    (other_takes pool c.args.len c.args.bytes.now (take c.args.len c.args.bytes.now) (drop c.args.len c.args.bytes.now) (are_take c.args.len c.args.bytes.now (are_bytes c.args.bytes.now (λ i. omega (arith, c.type_inv.bytes i)))) (sym (take-append-drop c.args.len c.args.bytes.now)) (length-take-le c.args.len c.args.bytes.now long))
