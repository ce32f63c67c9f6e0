use Rattle.std.proofs.Common.{◌≡◌, ℕ, Bool, List, [], ◌∷◌, Option, None, refl, sym, ap, ◌∙◌}
use Rattle.wv_base.specs.declared.note.Note.{Note}
use Rattle.wv_attr.specs.Writing.{as_members, as_parameters, AreMembers, AreParameters}
use Rattle.wv_attr.proofs.laws.same_in_their_table.Goals as goal

same_members : (visible : Bool) (notes : List Note) → AreMembers visible notes → as_members visible notes ≡ notes
same_members visible [] all = refl
same_members visible (n ∷ notes) all =
    ap (λ (b : Bool). record { visible = b; parameter = None; annotation = n.annotation } ∷ as_members visible notes) (sym all.0.0)
    ∙ ap (λ (o : Option ℕ). record { visible = n.visible; parameter = o; annotation = n.annotation } ∷ as_members visible notes) (sym all.0.1)
    ∙ ap (λ (t : List Note). n ∷ t) (same_members visible notes all.1)

same_parameters : (visible : Bool) (notes : List Note) → AreParameters visible notes → as_parameters visible notes ≡ notes
same_parameters visible [] all = refl
same_parameters visible (n ∷ notes) all =
    ap (λ (b : Bool). record { visible = b; parameter = n.parameter; annotation = n.annotation } ∷ as_parameters visible notes) (sym all.0)
    ∙ ap (λ (t : List Note). n ∷ t) (same_parameters visible notes all.1)

pub returns-clause-members : goal.returns-clause-members
returns-clause-members c = λ visible notes all. same_members visible notes all

pub returns-clause-parameters : goal.returns-clause-parameters
returns-clause-parameters c = λ visible notes all. same_parameters visible notes all
