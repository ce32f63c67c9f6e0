-- The parts of annotations, of which those that begin early aren't too deep.
use Rattle.std.proofs.Common.{◌≡◌, ℕ, ◌-◌, ◌<◌, ◌≤◌, List, [], ◌∷◌, ◌++◌, length, refl, sym, subst, ap, ◌∙◌, arith}
use Rattle.wv_attr.specs.declared.mark.Mark.{Mark}
use Rattle.wv_attr.specs.declared.group.Group.{Group}
use Rattle.wv_attr.specs.Marks.{mark_bytes, table_bytes}
use Rattle.wv_attr.specs.Groups.{behind, less, Follows, end, over, part}
use Rattle.wv_attr.proofs.Filling.{long_mark, table-cons}
use Rattle.wv_attr.proofs.Leading.{one_mark, same_front, past_over, first_of, nearer_only}
use Rattle.wv_class.specs.Layout.{SpellsParts}

no_more : {near : ℕ} {others : List Mark} → Follows near [] others → [] ≡ others
no_more end = refl

follows_one : {near : ℕ} (far : ℕ) {gs : List Group} {ms : List Mark} (others : List Mark) → Follows near gs ms → Follows far gs others → table_bytes ms ≡ table_bytes others → ms ≡ others
follows_one far others end f e = no_more f
follows_one far others (over z g) f e = follows_one far others g (past_over z f) e
follows_one far others (part {near} {g} {gs} {m} {ms} c valid kind shallow rest) f e =
    let i = first_of c f in
    let apart : table_bytes (m ∷ ms) ≡ table_bytes (i.mark ∷ i.others) = e ∙ ap table_bytes i.splits in
    let same : m ≡ i.mark = one_mark m i.mark (table_bytes ms) (table_bytes i.others) valid i.valid (kind ∙ sym i.of_kind) apart in
    let bytes : table_bytes ms ≡ table_bytes i.others = same_front (mark_bytes m) (table_bytes ms) (table_bytes i.others) (apart ∙ ap (λ (k : Mark). mark_bytes k ++ table_bytes i.others) (sym same)) in
    let others_are : ms ≡ i.others = follows_one (far - length (mark_bytes i.mark)) i.others rest (subst (λ (k : Mark). Follows (far - length (mark_bytes i.mark)) (behind g.depth k ∷ less g ∷ gs) i.others) (sym same) i.follows) bytes in
    ap (λ (t : List Mark). m ∷ t) others_are ∙ ap (λ (k : Mark). k ∷ i.others) same ∙ sym i.splits

-- where all of them aren't too deep
follows_far : {near : ℕ} {gs : List Group} {ms : List Mark} (n : ℕ) → length (table_bytes ms) ≤ near → Follows near gs ms → Follows n gs ms
follows_far n le end = end
follows_far n le (over z f) = over z (follows_far n le f)
follows_far n le (part {near} {g} {gs} {m} {ms} c valid kind shallow f) =
    let long = long_mark m in
    let all = table-cons m ms in
    part c valid kind (λ pos. shallow (omega (arith, long, all, le))) (follows_far (n - length (mark_bytes m)) (omega (arith, all, le)) f)

pub parts_same : (m n : ℕ) (gs : List Group) (xs ys : List Mark) (t u : List ℕ) → t ≡ u → SpellsParts m gs xs t → SpellsParts n gs ys u → xs ≡ ys
parts_same m n gs xs ys t u e a b = follows_one n ys a.follows b.follows (sym a.spelled ∙ e ∙ b.spelled)

pub parts_full : (near n : ℕ) (gs : List Group) (xs : List Mark) (t : List ℕ) → length t ≤ near → SpellsParts near gs xs t → SpellsParts n gs xs t
parts_full near n gs xs t le a = record { follows = follows_far n (omega (arith, le, ap length a.spelled)) a.follows; spelled = a.spelled }

pub parts_less : (m n : ℕ) (gs : List Group) (xs : List Mark) (t : List ℕ) → m ≤ n → SpellsParts n gs xs t → SpellsParts m gs xs t
parts_less m n gs xs t le a = record { follows = nearer_only m le a.follows; spelled = a.spelled }
