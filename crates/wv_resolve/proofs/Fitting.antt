-- Whether mods fit, from what was looked at.
use Rattle.std.proofs.Common.{◌≡◌, ℕ, List, Result, Ok, Err, OnOk, IfErr, subst}
use Rattle.wv_mod.specs.declared.mod_info.ModInfo.{ModInfo}
use Rattle.wv_mod.specs.declared.fault.ModFault.{ModFault}
use Rattle.wv_mod.specs.declared.fault.ModFault.TheVariants as fault
use Rattle.wv_resolve.specs.declared.kind.Kind.TheVariants as kinds
use Rattle.wv_resolve.specs.Presence.{Presence, present_ids, AreDistinct}
use Rattle.wv_resolve.specs.Dependency.{all_entries}
use Rattle.wv_resolve.specs.Refusal.{IsTwiceBroken, IsEntryBroken, IsBrokenFault}
use Rattle.wv_resolve.specs.Resolution.{AllKeep, AreFitting, IsUnfitting, twice, unmet, met}

pub unfit-twice : (builtin : List (List ℕ × List ℕ)) (loaded : List ModInfo) (list : List Presence) (f : ModFault) → list ≡ present_ids builtin loaded → IsBrokenFault (IsTwiceBroken list) f → IsBrokenFault (IsUnfitting builtin loaded) f
unfit-twice builtin loaded list fault.Memory is h = tt
unfit-twice builtin loaded list (fault.Broken broken) is h = twice broken (subst (λ (ps : List Presence). IsTwiceBroken ps broken) is h)

pub unfit-unmet : (builtin : List (List ℕ × List ℕ)) (loaded : List ModInfo) (f : ModFault) → AreDistinct (present_ids builtin loaded) → IsBrokenFault (IsEntryBroken kinds.Depends (present_ids builtin loaded) (all_entries kinds.Depends loaded)) f → IsBrokenFault (IsUnfitting builtin loaded) f
unfit-unmet builtin loaded fault.Memory distinct h = tt
unfit-unmet builtin loaded (fault.Broken broken) distinct h = unmet broken distinct h

pub unfit-met : (builtin : List (List ℕ × List ℕ)) (loaded : List ModInfo) (r : Result (Unit {0}) ModFault) → AreDistinct (present_ids builtin loaded) → AllKeep kinds.Depends builtin loaded → IfErr r (IsBrokenFault (IsEntryBroken kinds.Breaks (present_ids builtin loaded) (all_entries kinds.Breaks loaded))) → IfErr r (IsBrokenFault (IsUnfitting builtin loaded))
unfit-met builtin loaded (Ok x) distinct depends h = tt
unfit-met builtin loaded (Err fault.Memory) distinct depends h = tt
unfit-met builtin loaded (Err (fault.Broken broken)) distinct depends h = met broken distinct depends h

pub fits : (builtin : List (List ℕ × List ℕ)) (loaded : List ModInfo) (r : Result (Unit {0}) ModFault) → AreDistinct (present_ids builtin loaded) → AllKeep kinds.Depends builtin loaded → OnOk r (AllKeep kinds.Breaks builtin loaded) → OnOk r (AreFitting builtin loaded)
fits builtin loaded (Ok x) distinct depends breaks = record { distinct = distinct; depends = depends; breaks = breaks }
fits builtin loaded (Err e) distinct depends breaks = tt
