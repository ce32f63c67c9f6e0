-- The constants of an Exceptions attribute.
use Rattle.std.proofs.Common.{◌≡◌, ℕ, false, List, [], ◌∷◌, ◌++◌, length, map, refl, ap, subst, sym, ◌∙◌, append_assoc}
use Rattle.std.specs.Prelude.{codes, ◌==◌}
use Rattle.wv_base.specs.declared.constant.Const.{Const}
use Rattle.wv_base.specs.declared.constant.Const.TheVariants as constants
use Rattle.wv_class.specs.Needs.{exceptions_constants}

exceptions_are : (names : List (List ℕ)) → (length names == 0) ≡ false → constants.Utf8 (codes "Exceptions") ∷ map (λ n. constants.Class n) names ≡ exceptions_constants names
exceptions_are [] some = absurd cc
exceptions_are (name ∷ names) some = refl

pub exceptions_pushed : (old middle : List Const) (names : List (List ℕ)) (name : Const) → (length names == 0) ≡ false → middle ≡ old ++ name ∷ [] → name ≡ constants.Utf8 (codes "Exceptions")
    → middle ++ map (λ n. constants.Class n) names ≡ old ++ exceptions_constants names
exceptions_pushed old middle names name some pushed is =
    ap (λ (cs : List Const). cs ++ map (λ n. constants.Class n) names) (pushed ∙ ap (λ (c : Const). old ++ c ∷ []) is)
    ∙ append_assoc old (constants.Utf8 (codes "Exceptions") ∷ []) (map (λ n. constants.Class n) names) ∙ ap (λ (cs : List Const). old ++ cs) (exceptions_are names some)
