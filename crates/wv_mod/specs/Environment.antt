use Rattle.std.specs.Prelude.{◌≡◌, ℕ, List, codes}
use Rattle.serde_json.specs.Data.{Data}
use Rattle.wv_base.specs.declared.side.Side.{Side}
use Rattle.wv_base.specs.declared.side.Side.TheVariants as sides
use Rattle.wv_json.specs.Kind.{IsText}
use Rattle.wv_mod.specs.declared.environment.Environment.{Environment}
use Rattle.wv_mod.specs.declared.environment.Environment.TheVariants.{Both, Client, Server}

-- the name of an environment (fabric.mod.json, schema version 1)
abbrev pub environment_name : Environment → List ℕ
environment_name Both = codes "*"
environment_name Client = codes "client"
environment_name Server = codes "server"

-- the value is this environment's name
abbrev pub IsEnvironment : Data → Environment → Type 0
IsEnvironment value environment = IsText value (environment_name environment)

-- the environment is `*` or the side
abbrev pub IsFor : Side → Environment → Type 0
IsFor side Both = Unit {0}
IsFor side Client = side ≡ sides.Client
IsFor side Server = side ≡ sides.Server
