-- A file whose `mappings` is of another kind is no refmap.
use Rattle.std.proofs.Common.{◌≡◌, ℕ, List, Option, Some, None, false, subst}
use Rattle.std.specs.Option.{is_some}
use Rattle.std.specs.Prelude.{codes}
use Rattle.serde_json.specs.Data.{Data}
use Rattle.serde_json.specs.Find.{get}
use Rattle.serde_json.specs.Read.{read as json_read}
use Rattle.wv_json.specs.Field.{IsRead}
use Rattle.wv_json.specs.Kind.{IsText, IsObjectOf}
use Rattle.wv_json.specs.Object.{IsObjectText}
use Rattle.wv_config.specs.Refmap.{IsRefmapFile}

same_some : {A : Type 0} (o : Option A) (x y : A) → o ≡ Some x → o ≡ Some y → x ≡ y
same_some o x y a b = cc

pub no_tables : (bytes : List ℕ) (file mappings : Data) (tables : Option (List (List ℕ × List (List ℕ × List ℕ)))) → IsObjectText bytes file → get (codes "mappings") file ≡ Some mappings → IsRead (IsObjectOf (IsObjectOf IsText)) mappings tables → is_some tables ≡ false → (other : Data) → IsRefmapFile bytes other → ⊥
no_tables bytes file mappings (Some tables) text at read none other is = cc
no_tables bytes file mappings None text at read none other is =
    let same : other ≡ file = same_some (json_read bytes) other file is.text.whole text.whole in
    let there = subst (λ (f : Data). get (codes "mappings") f ≡ Some is.mappings) same is.at_mappings in
    let found : is.mappings ≡ mappings = same_some (get (codes "mappings") file) is.mappings mappings there at in
    read is.tables (subst (λ (m : Data). IsObjectOf (IsObjectOf IsText) m is.tables) found is.are_tables)
