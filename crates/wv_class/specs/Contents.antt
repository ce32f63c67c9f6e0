-- The contents of attributes, by their kinds and lengths.
use Rattle.std.specs.Prelude.{◌≡◌, ℕ, ◌-◌, ◌^◌, ◌<◌, List, ◌++◌, length}
use Rattle.wv_base.specs.declared.class_file.PoolEntry.{PoolEntry}
use Rattle.wv_code.specs.Content.{length_bytes}
use Rattle.wv_class.specs.declared.raw_class.Kind.{Kind}
use Rattle.wv_class.specs.declared.raw_class.Content.{Content}
use Rattle.wv_class.specs.Kinds.{kind_of}
use Rattle.wv_class.specs.Layout.{SpellsContent}

-- the bytes, so many, are this content of an attribute of the kind
pub record SpellsSized (pool : List PoolEntry) (kind : Kind) (len near : ℕ) (content : Content) (bytes : List ℕ) : Type 0 where
  pub long : length bytes ≡ len
  pub known : kind ≡ kind_of content
  pub is : SpellsContent near pool content bytes

-- the bytes are the length of this content, and the content
pub record SpellsBehindLength (pool : List PoolEntry) (kind : Kind) (near : ℕ) (content : Content) (bytes : List ℕ) : Type 0 where
  pub text : List ℕ
  pub short : length text < 2 ^ 32
  pub known : kind ≡ kind_of content
  pub is : SpellsContent (near - 4) pool content text
  pub spelled : bytes ≡ length_bytes (length text) ++ text
