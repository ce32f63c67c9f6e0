-- A method that a class file can have, part by part.
use Rattle.std.proofs.Common.{◌≡◌, ◌↔◌, Bool, List, None}
use Rattle.std.specs.Prelude.{IsTrue, IfOk, Result, Ok, Err}
use Rattle.wv_base.specs.declared.memory.Memory.{Memory}
use Rattle.wv_base.specs.declared.class_file.PoolEntry.{PoolEntry}
use Rattle.wv_base.specs.declared.class_file.Member.{Member}
use Rattle.wv_class.specs.Formed.{IsFormedInitializer, IsFormedWidth, IsFormedMethod}
use Rattle.wv_class.specs.FormedMethod.{HasFormedName, HasFormedHead, HasFormedAttributes}

pub head_is : (m : Member) (named : Result Bool Memory) → m.value ≡ None → IsFormedWidth m → IsFormedInitializer m → IfOk named (λ b. IsTrue b ↔ HasFormedName m) → IfOk named (λ b. IsTrue b ↔ HasFormedHead m)
head_is m (Ok b) value narrow initializer h = ((λ t. (value, narrow, initializer, h.0 t)), λ has. h.1 has.3)
head_is m (Err e) value narrow initializer h = h

pub method_is : (pool : List PoolEntry) (m : Member) (b : Bool) → HasFormedHead m → (IsTrue b ↔ HasFormedAttributes pool m) → IsTrue b ↔ IsFormedMethod pool m
method_is pool m b head h = ((λ t. whole (h.0 t)), λ is. h.1 (is.body, is.throws, is.notes, is.kept))
  where
    whole : HasFormedAttributes pool m → IsFormedMethod pool m
    whole has = record {
      name = head.3.0;
      descriptor = (head.3.1, head.3.2);
      narrow = head.1;
      initializer = head.2;
      body = has.0;
      no_value = head.0;
      throws = has.1;
      notes = has.2;
      kept = has.3;
    }
