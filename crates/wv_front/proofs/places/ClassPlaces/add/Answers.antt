use Rattle.std.proofs.Common.{◌≡◌, true, false, refl, sym, ◌∙◌, rules, tests}
use Rattle.wv_front.proofs.Firsts.{places-kept, places-more}
use Rattle.wv_front.proofs.places.ClassPlaces.add.Goals as goal

pub returns-in_ok-insert : goal.returns-in_ok-insert
returns-in_ok-insert c = λ names h next.
    let fresh : c.contains_key.result ≡ false = search (rules, tests) in
    places-more names c.args.name.now c.args.place c.args.self.now (record { places = c.insert.new.self }) h next
    (sym c.contains_key.ensures ∙ fresh)
    (rw c.in_ok-copy.ensures at c.in_ok-insert.ensures.updates)

pub returns-else-not-contains_key : goal.returns-else-not-contains_key
returns-else-not-contains_key c = λ names h next.
    let known : c.contains_key.result ≡ true = search (rules, tests) in
    places-kept names c.args.name.now c.args.self.now c.args.self.now h (sym c.contains_key.ensures ∙ known) refl
