-- Each kind of content has a length.
use Rattle.std.proofs.Common.{◌≡◌, ℕ, ◌^◌, ◌<◌, refl, inl, inr, arith}
use Rattle.wv_room.specs.Elements.{bytes, parameter}
use Rattle.wv_class.specs.declared.raw_class.Kind.{Kind}
use Rattle.wv_class.specs.declared.raw_class.Kind.TheVariants as kinds
use Rattle.wv_class.specs.Lengths.{AllowsLength}
use Rattle.wv_class.specs.Numbers.{SpellsAllowed}
use Rattle.wv_class.proofs.Grammars.{IsGrammar}
use Rattle.wv_class.proofs.Allowed.{allowed_grammar}

pub some_length : (kind : Kind) → (n : ℕ) × (n < 256 ^ 4) × AllowsLength kind n
some_length kinds.Code = (12, omega arith, omega arith)
some_length kinds.ConstantValue = (2, omega arith, refl)
some_length kinds.Exceptions = (2, omega arith, record { even = refl; least = omega arith; most = omega arith })
some_length (kinds.Annotations visible) = (2, omega arith, parameter 0 (omega arith) bytes)
some_length (kinds.ParameterAnnotations visible) = (1, omega arith, inl refl)
some_length kinds.Other = (0, omega arith, tt)

pub length_grammar : (kind : Kind) → IsGrammar (SpellsAllowed 4 (AllowsLength kind))
length_grammar kind = let s = some_length kind in allowed_grammar 4 (AllowsLength kind) s.0 s.1 s.2
