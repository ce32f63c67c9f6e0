-- What may be wrong with the description of the game (our own).
use Rattle.std.specs.Prelude.{◌≡◌, ℕ, List, [], ◌∷◌, None, codes}
use Rattle.serde_json.specs.Data.{Data}
use Rattle.wv_base.specs.declared.broken.Broken.{Broken}
use Rattle.wv_base.specs.declared.rule.Rule.TheVariants.{GameBad}
use Rattle.wv_json.specs.Object.{IsObjectText}
use Rattle.wv_mod.specs.declared.fault.ModFault.{ModFault}
use Rattle.wv_mod.specs.declared.fault.ModFault.TheVariants as fault
use Rattle.wv_mod.specs.declared.game_flaw.GameFlaw.{GameFlaw}
use Rattle.wv_mod.specs.declared.game_flaw.GameFlaw.TheVariants.{Json, Id, Version, Main, Builtin}
use Rattle.wv_mod.specs.declared.game_flaw.GameStop.{GameStop}
use Rattle.wv_mod.specs.declared.game_flaw.GameStop.TheVariants as stop
use Rattle.wv_mod.specs.Manifest.{HasId, HasVersion}
use Rattle.wv_mod.specs.GameInfo.{HasMain, HasBuiltin}
use Rattle.wv_mod.specs.Flaw.{IsFirstWithout}

-- the order in which the description is looked at
abbrev pub game_order : List GameFlaw
game_order = Json ∷ Id ∷ Version ∷ Main ∷ Builtin ∷ []

-- what a refusal says was found: the key, or that the bytes are no object
abbrev pub game_found : GameFlaw → List ℕ
game_found Json = codes "json"
game_found Id = codes "id"
game_found Version = codes "version"
game_found Main = codes "main"
game_found Builtin = codes "builtin"

-- the object is as it has to be at the key
abbrev pub IsRightAt : Data → GameFlaw → Type 0
IsRightAt value Json = Unit {0}
IsRightAt value Id = (id : List ℕ) × HasId value id
IsRightAt value Version = (version : List ℕ) × HasVersion value version
IsRightAt value Main = (main : List ℕ) × HasMain value main
IsRightAt value Builtin = (entries : List (List ℕ × List ℕ)) × HasBuiltin value entries

-- the bytes are the text of an object, and that object is as it has to be at the key
abbrev pub IsRightIn : List ℕ → GameFlaw → Type 0
IsRightIn bytes flaw = (value : Data) × IsObjectText bytes value × IsRightAt value flaw

-- the refusal of a description for what is wrong with it
abbrev pub game_bad : GameFlaw → Broken
game_bad flaw = record {
  rule = GameBad;
  place = record { file = codes "game/game.json"; member = None; index = None };
  wanted = codes "-";
  found = game_found flaw;
}

-- rule 3: the description isn't as it has to be, and this is the first that is wrong with it
abbrev pub IsGameBroken : List ℕ → Broken → Type 0
IsGameBroken bytes broken = (flaw : GameFlaw) × IsFirstWithout (IsRightIn bytes) game_order flaw × (broken ≡ game_bad flaw)

-- the rule that the description breaks, or want of memory
abbrev pub IsGameFault : List ℕ → ModFault → Type 0
IsGameFault bytes (fault.Broken broken) = IsGameBroken bytes broken
IsGameFault bytes fault.Memory = Unit {0}

-- a stop at the first that is wrong
abbrev pub IsGameStop : List ℕ → GameStop → Type 0
IsGameStop bytes (stop.Flaw flaw) = IsFirstWithout (IsRightIn bytes) game_order flaw
IsGameStop bytes stop.Memory = Unit {0}
