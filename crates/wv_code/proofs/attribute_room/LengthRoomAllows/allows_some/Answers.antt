use Rattle.std.proofs.Common.{◌≡◌, ◌≤◌, ◌+◌, ◌*◌, arith, inl, inr}
use Rattle.std.proofs.lemmas.Bool.{leb-true, le-leb, cases_lt}
use Rattle.wv_code.proofs.AttributeRooms.{no_lengths, lengths_to, lengths_from, first_of, first_last, first_others}
use Rattle.wv_code.proofs.attribute_room.LengthRoomAllows.allows_some.Goals as goal

pub returns-in_default : goal.returns-in_default
returns-in_default c = (
  λ t. absurd cc,
  λ a. absurd (no_lengths c.args.self.now.least c.args.self.now.left c.args.self.now.room c.args.least c.args.most (elim (cases_lt c.args.self.now.room (6 * c.args.self.now.left)) [
    | inl lt ↦ lt
    | inr le ↦ absurd (c.in_default.ensures (omega (arith, c.from.ensures, le)))
  ]) a),
)

pub returns-then-self-greatest : goal.returns-then-self-greatest
returns-then-self-greatest c =
    let sum : c.args.self.now.room ≡ c.in-Some.greatest + 6 * c.args.self.now.left = omega (arith, c.from.ensures, c.in-Some.ensures) in (
      λ t.
          let le : c.max.result ≤ c.min.result = leb-true _ _ t in
          lengths_from c.args.self.now.least c.args.self.now.left c.args.self.now.room c.args.least c.args.most c.in-Some.greatest c.first.result (omega (arith, c.ranges)) sum c.first.ensures.last c.first.ensures.others c.if-self-greatest.true (omega (arith, le, c.max.ensures, c.min.ensures)),
      λ a.
          let l = lengths_to c.args.self.now.least c.args.self.now.left c.args.self.now.room c.args.least c.args.most c.in-Some.greatest c.first.result sum c.first.ensures.last c.first.ensures.others a in
          le-leb _ _ (omega (arith, l, c.max.ensures, c.min.ensures)),
    )

pub returns-else-self-greatest : goal.returns-else-self-greatest
returns-else-self-greatest c =
    let sum : c.args.self.now.room ≡ c.in-Some.greatest + 6 * c.args.self.now.left = omega (arith, c.from.ensures, c.in-Some.ensures) in (
      λ t. absurd (let le = leb-true _ _ t in omega (arith, le, c.if-self-greatest.false)),
      λ a. absurd (
          let l = lengths_to c.args.self.now.least c.args.self.now.left c.args.self.now.room c.args.least c.args.most c.in-Some.greatest (first_of c.args.self.now.left c.in-Some.greatest c.args.self.now.least) sum (first_last c.args.self.now.left c.in-Some.greatest c.args.self.now.least) (first_others c.args.self.now.left c.in-Some.greatest c.args.self.now.least) a in
          omega (arith, l.0, c.if-self-greatest.false)),
    )
