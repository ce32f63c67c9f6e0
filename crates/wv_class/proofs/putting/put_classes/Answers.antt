use Rattle.std.proofs.Common.{◌≡◌, ◌++◌, length, refl, ap}
use Rattle.std.proofs.lemmas.Result.{on_ok_weaker}
use Rattle.wv_pool.specs.Entries.{number_bytes}
use Rattle.wv_class.specs.Appending.{WritesEach, WritesClassName, WritesClasses}
use Rattle.wv_class.proofs.Appended.{both_appended}
use Rattle.wv_class.proofs.putting.put_classes.Goals as goal

pub returns : goal.returns
returns c =
    let pool = c.args.pool.now in
    let names = c.args.names.now in
    let old = c.args.out.now in
    let middle = c.put_number.new.out in
    let new = c.put_each_class.new.out in
    let count = number_bytes (length names) in
    on_ok_weaker c.put_each_class.result
    (both_appended (λ bytes. bytes ≡ count) (WritesEach (WritesClassName pool) names) (WritesClasses pool names) old middle new
    (λ a b is each. record { few = c.requires.few; numbers = b; each = each; spelled = ap (λ t. t ++ b) is })
    (record { bytes = count; written = refl; longer = c.in_ok-put_number.ensures }))
    c.put_each_class.ensures
