use Rattle.std.proofs.Common.{◌≡◌, ℕ, List, [], ◌++◌, ◌∙◌, sym, ap, subst, refl, encode_utf8_all}
use Rattle.std.specs.String.{string_bytes}
use Rattle.std.proofs.lemmas.List.{append-nil, nil_from_length}
use Rattle.std.proofs.lemmas.Bool.{eqb-true}
use Rattle.wv_base.specs.Shown.{shown_characters}
use Rattle.wv_base.proofs.print.shown.Goals as goal

-- nothing is shown of no units
ended : (text rest whole : List ℕ) → rest ≡ [] → text ++ encode_utf8_all (shown_characters rest) ≡ whole → text ≡ whole
unfolding shown_characters
ended text rest whole none kept =
    sym (append-nil text) ∙ subst (λ (r : List ℕ). text ++ encode_utf8_all (shown_characters r) ≡ whole) none kept

pub returns : goal.returns
returns c =
    let none : c.loop-rest.rest.now ≡ [] = nil_from_length _ (eqb-true _ _ (sym c.is_empty.ensures ∙ c.loop-rest-test.false)) in
    c.from_string.ensures ∙ ended (string_bytes c.loop-rest.text) c.loop-rest.rest.now _ none c.loop-rest.invariant
