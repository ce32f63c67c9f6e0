-- Lists whose items are texts.
use Rattle.std.proofs.Common.{◌≡◌, ℕ, zero, suc, ◌<◌, List, [], ◌∷◌, length, get_or, map, Some, None, ap, sym, ◌∙◌, arith}
use Rattle.serde_json.specs.declared.value.Value.{Value}
use Rattle.serde_json.specs.Data.{Data, null, boolean, number, string, array, object}
use Rattle.serde_json.specs.Find.{as_str}
use Rattle.serde_json.specs.View.{view, items_of, items_view}

pub string-from_text : (value : Data) (text : List ℕ) → as_str value ≡ Some text → value ≡ string text
string-from_text null text e = cc
string-from_text (boolean b) text e = cc
string-from_text (number n) text e = cc
string-from_text (string s) text e = let same : s ≡ text = cc in ap string same
string-from_text (array ds) text e = cc
string-from_text (object ms) text e = cc

not_text_at : (list : List Value) (i : ℕ) (texts : List (List ℕ)) (d : Value) → i < length list → as_str (view (get_or list i d)) ≡ None → items_view list ≡ items_of (map string texts) → ⊥
not_text_at [] i texts d inside none e = omega arith
not_text_at (v ∷ list) i [] d inside none e = cc
not_text_at (v ∷ list) zero (text ∷ texts) d inside none e =
    let same : view v ≡ string text = cc in
    let clash : None ≡ Some text = sym none ∙ ap as_str same in cc
not_text_at (v ∷ list) (suc i) (text ∷ texts) d inside none e =
    let rest : items_view list ≡ items_of (map string texts) = cc in
    not_text_at list i texts d (omega arith) none rest

-- a list with an item that isn't a text is no list of texts
pub no_texts : (list : List Value) (i : ℕ) (value : Value) → i < length list → value ≡ get_or list i value → as_str (view value) ≡ None → (texts : List (List ℕ)) → array (items_view list) ≡ array (items_of (map string texts)) → ⊥
no_texts list i value inside at none texts e =
    let items : items_view list ≡ items_of (map string texts) = cc in
    not_text_at list i texts value inside (ap (λ v. as_str (view v)) (sym at) ∙ none) items

pub no_text : (value : Data) → as_str value ≡ None → (text : List ℕ) → value ≡ string text → ⊥
no_text value none text e = let clash : None ≡ Some text = sym none ∙ ap as_str e in cc
