-- The layouts of methods with a pool that has all constants of the class.
use Rattle.std.proofs.Common.{◌≡◌, ℕ, ◌+◌, ◌<◌, List, [], ◌∷◌, ◌++◌, length, get_or, take, drop, Option, Some, None, Result, Ok, Err, refl, sym, subst}
use Rattle.std.specs.List.{AllByRecursion, AllZip}
use Rattle.std.proofs.lemmas.List.{take_more}
use Rattle.wv_base.specs.declared.class_file.PoolEntry.{PoolEntry}
use Rattle.wv_base.specs.declared.class_file.Body.{Body}
use Rattle.wv_base.specs.declared.class_file.Member.{Member}
use Rattle.wv_base.specs.declared.fault.LimitFault.{LimitFault}
use Rattle.wv_base.specs.declared.fault.LimitFault.TheVariants as faults
use Rattle.wv_pool.specs.References.{IsPool}
use Rattle.wv_pool.specs.Numbers.{Named}
use Rattle.wv_code.specs.declared.code_layout.CodeLayout.{CodeLayout}
use Rattle.wv_code.specs.Entering.{short_constants, Enters}
use Rattle.wv_code.specs.Laying.{IsLarge, LeavesFar, IsCause}
use Rattle.wv_code.proofs.Lists.{split_at}
use Rattle.wv_class.specs.Limits.{HasLayout, BreaksLimit, FirstOf}
use Rattle.wv_class.specs.Laid.{IsLaid, AreLaid, BodyBreaks, LayoutsBreak}
use Rattle.wv_class.specs.Needs.{code_constants}
use Rattle.wv_class.proofs.NeededParts.{body_short}
use Rattle.wv_class.proofs.Unchanged.{enters_same, full_never}

module _ (pool new : List PoolEntry) (body : Body) (sound : IsPool pool) (named : AllByRecursion (Named pool) (code_constants (Some body))) where
  pub layout_same : Enters pool (short_constants body.insns) new → new ≡ pool
  layout_same entered = enters_same pool sound (short_constants body.insns) new (body_short (Named pool) body named.1) entered

  -- the pool isn't full, and it is the same that code passes a limit with
  pub body_breaks : (fault : LimitFault) → IsCause pool new body.insns fault → BodyBreaks pool (Some body) fault
  body_breaks faults.PoolLarge full = full_never pool sound (short_constants body.insns) (body_short (Named pool) body named.1) full
  body_breaks faults.CodeLarge (entered, large) = subst (λ (p : List PoolEntry). IsLarge p body.insns) (layout_same entered) large
  body_breaks faults.BranchFar (entered, far) = subst (λ (p : List PoolEntry). LeavesFar p body.insns) (layout_same entered) far
  body_breaks faults.Memory h = tt

-- ---- One method more

laid_push : (pool : List PoolEntry) (methods : List Member) (layouts : List (Option CodeLayout)) (m : Member) (layout : Option CodeLayout) → AreLaid pool methods layouts → IsLaid pool m.body layout → AreLaid pool (methods ++ m ∷ []) (layouts ++ layout ∷ [])
laid_push pool [] [] m layout h k = (k, tt)
laid_push pool [] (l ∷ layouts) m layout h k = absurd h
laid_push pool (n ∷ methods) [] m layout h k = absurd h
laid_push pool (n ∷ methods) (l ∷ layouts) m layout h k = (h.0, laid_push pool methods layouts m layout h.1 k)

has_layout : (pool : List PoolEntry) (body : Option Body) (layout : Option CodeLayout) → IsLaid pool body layout → HasLayout pool body
has_layout pool None None h = tt
has_layout pool None (Some layout) h = absurd h
has_layout pool (Some body) None h = absurd h
has_layout pool (Some body) (Some layout) h = (layout, h)

have_layouts : (pool : List PoolEntry) (methods : List Member) (layouts : List (Option CodeLayout)) → AreLaid pool methods layouts → AllByRecursion (λ (m : Member). HasLayout pool m.body) methods
have_layouts pool [] layouts h = tt
have_layouts pool (m ∷ methods) [] h = absurd h
have_layouts pool (m ∷ methods) (l ∷ layouts) h = (has_layout pool m.body l h.0, have_layouts pool methods layouts h.1)

module _ (pool : List PoolEntry) (methods : List Member) (layouts : List (Option CodeLayout)) (i : ℕ) (m : Member) (within : i < length methods) (is : m ≡ get_or methods i m) (laid : AreLaid pool (take i methods) layouts) where
  pub one_laid : (layout : Option CodeLayout) → IsLaid pool m.body layout → AreLaid pool (take (i + 1) methods) (layouts ++ layout ∷ [])
  one_laid layout h = rw (take_more methods i m within, ← is) (laid_push pool (take i methods) layouts m layout laid h)

  first_of : (fault : LimitFault) → BreaksLimit pool m.body fault → FirstOf pool methods fault
  first_of fault breaks = record {
    before = take i methods;
    method = m;
    after = drop (i + 1) methods;
    parts = rw is (split_at methods i m within);
    laid = have_layouts pool (take i methods) layouts laid;
    breaks = breaks;
  }

  pub first_breaks : (fault : LimitFault) → BodyBreaks pool m.body fault → LayoutsBreak pool methods fault
  first_breaks faults.PoolLarge h = h
  first_breaks faults.CodeLarge h = first_of faults.CodeLarge h
  first_breaks faults.BranchFar h = first_of faults.BranchFar h
  first_breaks faults.Memory h = tt
