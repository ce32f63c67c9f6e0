-- Refmaps (Mixin 0.8.5).
use Rattle.std.specs.Prelude.{◌≡◌, ◌⊎◌, IsTrue, ℕ, List, Option, Some, None, codes}
use Rattle.std.specs.Option.{option_and_then, option_map}
use Rattle.std.specs.String.{IsUtf16Of}
use Rattle.std.specs.Char.Utf16.{has_unpaired_surrogate}
use Rattle.serde_json.specs.Data.{Data}
use Rattle.serde_json.specs.Find.{get, as_str}
use Rattle.wv_json.specs.Kind.{IsText, IsObjectOf}
use Rattle.wv_json.specs.Object.{IsObjectText}
use Rattle.wv_base.specs.declared.broken.Broken.{Broken}
use Rattle.wv_base.specs.declared.rule.Rule.TheVariants.{RefmapBad}
use Rattle.serde_json.specs.View.{view}
use Rattle.wv_config.specs.declared.refmap.Refmap.{Refmap}
use Rattle.wv_config.specs.declared.refmap.Names.{Names}
use Rattle.wv_config.specs.Fault.{broken_at}

-- the text at a reference in the object of one class, if there is one
abbrev pub text_of : Option Data → List ℕ → Option (List ℕ)
text_of table reference = option_and_then as_str (option_and_then (get reference) table)

-- the text at a reference in the object that a file has in `mappings` at a class's name
abbrev pub text_within : Data → List ℕ → List ℕ → Option (List ℕ)
text_within file class = text_of (option_and_then (get class) (get (codes "mappings") file))

-- the text that a refmap has at a class and a reference, if any
abbrev pub text_in : Refmap → List ℕ → List ℕ → Option (List ℕ)
text_in refmap = text_within (view refmap.file)

-- the text that the names of one class have at a reference, if any
abbrev pub text_at : Names → List ℕ → Option (List ℕ)
text_at names = text_of (option_map (λ table. view table.now) names.table)

-- the bytes are this object, whose `mappings` is an object of objects of texts
pub record IsRefmapFile (bytes : List ℕ) (file : Data) : Type 0 where
  pub text : IsObjectText bytes file
  pub mappings : Data
  pub at_mappings : get (codes "mappings") file ≡ Some mappings
  pub tables : List (List ℕ × List (List ℕ × List ℕ))
  pub are_tables : IsObjectOf (IsObjectOf IsText) mappings tables

-- the bytes are a refmap's, and at each class and reference it has the text that the file has there
pub record IsRefmap (bytes : List ℕ) (refmap : Refmap) : Type 0 where
  pub file : Data
  pub is_file : IsRefmapFile bytes file
  pub texts : (class reference : List ℕ) → text_in refmap class reference ≡ text_within file class reference

-- the bytes are no refmap's, and the file is named
pub record IsRefmapBroken (path bytes : List ℕ) (broken : Broken) : Type 0 where
  pub no_refmap : (file : Data) → IsRefmapFile bytes file → ⊥
  pub told : broken ≡ broken_at RefmapBad path (codes "-")

-- the names of the class whose name is these UTF-16 units: those at the text that they spell, and none where they spell no text
abbrev pub AreNames : Refmap → List ℕ → Names → Type 0
AreNames refmap units names =
    ((class : List ℕ) × IsUtf16Of units class × ((reference : List ℕ) → text_at names reference ≡ text_in refmap class reference))
    ⊎ (IsTrue (has_unpaired_surrogate units) × ((reference : List ℕ) → text_at names reference ≡ None))
