-- Which key is the first that is wrong.
use Rattle.std.proofs.Common.{◌≡◌, ℕ, ℤ, List, [], ◌∷◌, ◌++◌, Option, refl, sym, subst}
use Rattle.std.specs.List.{AllByRecursion}
use Rattle.serde_json.specs.Data.{Data}
use Rattle.wv_config.specs.declared.key.Key.{Key}
use Rattle.wv_config.specs.declared.key.Key.TheVariants.{Package, Mixins, Client, Server, Refmap, Priority, MixinPriority, DefaultRequire, RequireAnnotations}
use Rattle.wv_config.specs.declared.key.KeyFault.{KeyFault}
use Rattle.wv_config.specs.declared.key.KeyFault.TheVariants.{Wrong, Memory}
use Rattle.wv_config.specs.Key.{IsWrongAt}
use Rattle.wv_config.specs.Config.{IsPackage, IsClasses, IsRefmapPath, IsPriority, IsDefaultRequire, IsRequireAnnotations, IsRight, IsFirstWrong, IsKeyFault, keys}

-- a key is the first wrong one where all before it are right
first : {A : Type 0} (value : Data) (before after : List Key) (key : Key) (IsRead : A → Type 0) → keys ≡ before ++ key ∷ after → AllByRecursion (IsRight value) before → (IsRight value key → (x : A) × IsRead x) → (fault : KeyFault) → IsWrongAt key IsRead fault → IsKeyFault value fault
first value before after key IsRead order right read (Wrong other) wrong = subst (IsFirstWrong value) (sym wrong.0) (record {
  before = before;
  after = after;
  order = order;
  right = right;
  wrong = λ r. let found = read r in wrong.1 found.0 found.1;
})
first value before after key IsRead order right read Memory wrong = tt

pub wrong-package : (value : Data) (fault : KeyFault) → IsWrongAt Package (IsPackage value) fault → IsKeyFault value fault
wrong-package value fault wrong = first value ([]) (Mixins ∷ Client ∷ Server ∷ Refmap ∷ Priority ∷ MixinPriority ∷ DefaultRequire ∷ RequireAnnotations ∷ []) Package (IsPackage value) refl tt (λ r. r) fault wrong

pub wrong-mixins : (value : Data) (x0 : List ℕ) (fault : KeyFault) → IsPackage value x0 → IsWrongAt Mixins (IsClasses Mixins value) fault → IsKeyFault value fault
wrong-mixins value x0 fault r0 wrong = first value (Package ∷ []) (Client ∷ Server ∷ Refmap ∷ Priority ∷ MixinPriority ∷ DefaultRequire ∷ RequireAnnotations ∷ []) Mixins (IsClasses Mixins value) refl ((x0, r0), tt) (λ r. r) fault wrong

pub wrong-client : (value : Data) (x0 : List ℕ) (x1 : List (List ℕ)) (fault : KeyFault) → IsPackage value x0 → IsClasses Mixins value x1 → IsWrongAt Client (IsClasses Client value) fault → IsKeyFault value fault
wrong-client value x0 x1 fault r0 r1 wrong = first value (Package ∷ Mixins ∷ []) (Server ∷ Refmap ∷ Priority ∷ MixinPriority ∷ DefaultRequire ∷ RequireAnnotations ∷ []) Client (IsClasses Client value) refl ((x0, r0), ((x1, r1), tt)) (λ r. r) fault wrong

pub wrong-server : (value : Data) (x0 : List ℕ) (x1 : List (List ℕ)) (x2 : List (List ℕ)) (fault : KeyFault) → IsPackage value x0 → IsClasses Mixins value x1 → IsClasses Client value x2 → IsWrongAt Server (IsClasses Server value) fault → IsKeyFault value fault
wrong-server value x0 x1 x2 fault r0 r1 r2 wrong = first value (Package ∷ Mixins ∷ Client ∷ []) (Refmap ∷ Priority ∷ MixinPriority ∷ DefaultRequire ∷ RequireAnnotations ∷ []) Server (IsClasses Server value) refl ((x0, r0), ((x1, r1), ((x2, r2), tt))) (λ r. r) fault wrong

pub wrong-refmap : (value : Data) (x0 : List ℕ) (x1 : List (List ℕ)) (x2 : List (List ℕ)) (x3 : List (List ℕ)) (fault : KeyFault) → IsPackage value x0 → IsClasses Mixins value x1 → IsClasses Client value x2 → IsClasses Server value x3 → IsWrongAt Refmap (IsRefmapPath value) fault → IsKeyFault value fault
wrong-refmap value x0 x1 x2 x3 fault r0 r1 r2 r3 wrong = first value (Package ∷ Mixins ∷ Client ∷ Server ∷ []) (Priority ∷ MixinPriority ∷ DefaultRequire ∷ RequireAnnotations ∷ []) Refmap (IsRefmapPath value) refl ((x0, r0), ((x1, r1), ((x2, r2), ((x3, r3), tt)))) (λ r. r) fault wrong

pub wrong-priority : (value : Data) (x0 : List ℕ) (x1 : List (List ℕ)) (x2 : List (List ℕ)) (x3 : List (List ℕ)) (x4 : Option (List ℕ)) (fault : KeyFault) → IsPackage value x0 → IsClasses Mixins value x1 → IsClasses Client value x2 → IsClasses Server value x3 → IsRefmapPath value x4 → IsWrongAt Priority (IsPriority Priority value) fault → IsKeyFault value fault
wrong-priority value x0 x1 x2 x3 x4 fault r0 r1 r2 r3 r4 wrong = first value (Package ∷ Mixins ∷ Client ∷ Server ∷ Refmap ∷ []) (MixinPriority ∷ DefaultRequire ∷ RequireAnnotations ∷ []) Priority (IsPriority Priority value) refl ((x0, r0), ((x1, r1), ((x2, r2), ((x3, r3), ((x4, r4), tt))))) (λ r. r) fault wrong

pub wrong-mixin_priority : (value : Data) (x0 : List ℕ) (x1 : List (List ℕ)) (x2 : List (List ℕ)) (x3 : List (List ℕ)) (x4 : Option (List ℕ)) (x5 : ℤ) (fault : KeyFault) → IsPackage value x0 → IsClasses Mixins value x1 → IsClasses Client value x2 → IsClasses Server value x3 → IsRefmapPath value x4 → IsPriority Priority value x5 → IsWrongAt MixinPriority (IsPriority MixinPriority value) fault → IsKeyFault value fault
wrong-mixin_priority value x0 x1 x2 x3 x4 x5 fault r0 r1 r2 r3 r4 r5 wrong = first value (Package ∷ Mixins ∷ Client ∷ Server ∷ Refmap ∷ Priority ∷ []) (DefaultRequire ∷ RequireAnnotations ∷ []) MixinPriority (IsPriority MixinPriority value) refl ((x0, r0), ((x1, r1), ((x2, r2), ((x3, r3), ((x4, r4), ((x5, r5), tt)))))) (λ r. r) fault wrong

pub wrong-default_require : (value : Data) (x0 : List ℕ) (x1 : List (List ℕ)) (x2 : List (List ℕ)) (x3 : List (List ℕ)) (x4 : Option (List ℕ)) (x5 : ℤ) (x6 : ℤ) (fault : KeyFault) → IsPackage value x0 → IsClasses Mixins value x1 → IsClasses Client value x2 → IsClasses Server value x3 → IsRefmapPath value x4 → IsPriority Priority value x5 → IsPriority MixinPriority value x6 → IsWrongAt DefaultRequire (IsDefaultRequire value) fault → IsKeyFault value fault
wrong-default_require value x0 x1 x2 x3 x4 x5 x6 fault r0 r1 r2 r3 r4 r5 r6 wrong = first value (Package ∷ Mixins ∷ Client ∷ Server ∷ Refmap ∷ Priority ∷ MixinPriority ∷ []) (RequireAnnotations ∷ []) DefaultRequire (IsDefaultRequire value) refl ((x0, r0), ((x1, r1), ((x2, r2), ((x3, r3), ((x4, r4), ((x5, r5), ((x6, r6), tt))))))) (λ r. r) fault wrong

pub wrong-require_annotations : (value : Data) (x0 : List ℕ) (x1 : List (List ℕ)) (x2 : List (List ℕ)) (x3 : List (List ℕ)) (x4 : Option (List ℕ)) (x5 : ℤ) (x6 : ℤ) (x7 : ℤ) (fault : KeyFault) → IsPackage value x0 → IsClasses Mixins value x1 → IsClasses Client value x2 → IsClasses Server value x3 → IsRefmapPath value x4 → IsPriority Priority value x5 → IsPriority MixinPriority value x6 → IsDefaultRequire value x7 → IsWrongAt RequireAnnotations (IsRequireAnnotations value) fault → IsKeyFault value fault
wrong-require_annotations value x0 x1 x2 x3 x4 x5 x6 x7 fault r0 r1 r2 r3 r4 r5 r6 r7 wrong = first value (Package ∷ Mixins ∷ Client ∷ Server ∷ Refmap ∷ Priority ∷ MixinPriority ∷ DefaultRequire ∷ []) ([]) RequireAnnotations (IsRequireAnnotations value) refl ((x0, r0), ((x1, r1), ((x2, r2), ((x3, r3), ((x4, r4), ((x5, r5), ((x6, r6), ((x7, r7), tt)))))))) (λ r. r) fault wrong

pub ruleset first_wrong = (wrong-package, wrong-mixins, wrong-client, wrong-server, wrong-refmap, wrong-priority, wrong-mixin_priority, wrong-default_require, wrong-require_annotations)
