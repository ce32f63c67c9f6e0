use Rattle.std.proofs.Common.{◌≡◌, subst}
use Rattle.wv_class.specs.declared.raw_class.Kind.{Kind}
use Rattle.wv_class.specs.Contents.{SpellsBehindLength}
use Rattle.wv_class.specs.Reading.{Taken, Stopped}
use Rattle.wv_class.proofs.Exits.{fails}
use Rattle.wv_class.proofs.AttributeReads.{name_stops, content_stops, content_takes}
use Rattle.wv_class.proofs.attribute.attribute_at.Goals as goal

pub returns-in_err-name : goal.returns-in_err-name
returns-in_err-name c = fails c.args.bytes.now c.args.bytes.now (name_stops c.args.pool.now c.args.place c.args.bytes.now) c.from_residual.result c.in_err-name.field-0.0 c.from_residual.ensures.1 c.in_err-name.ensures

pub returns-in_err-content : goal.returns-in_err-content
returns-in_err-content c =
    fails c.in_ok-name.rest.now c.args.bytes.now (λ left s. content_stops c.args.pool.now c.args.place c.args.bytes.now c.in_ok-name.name c.in_ok-name.rest.now left c.in_ok-name.ensures (subst (λ (k : Kind). Stopped (SpellsBehindLength c.args.pool.now k) c.in_ok-name.rest.now left) c.kind_at-kind.ensures s))
    c.from_residual-in_err-content.result c.in_err-content.field-0.0 c.from_residual-in_err-content.ensures.1 c.in_err-content.ensures

pub returns : goal.returns
returns c =
    content_takes c.args.pool.now c.args.place c.args.bytes.now c.in_ok-name.name c.in_ok-name.rest.now c.in_ok-content.content c.in_ok-content.rest.now c.in_ok-name.ensures
    (subst (λ (k : Kind). Taken (SpellsBehindLength c.args.pool.now k) c.in_ok-name.rest.now c.in_ok-content.content c.in_ok-content.rest.now) c.kind_at-kind.ensures c.in_ok-content.ensures)
