-- What the program prints (our own).
use Rattle.std.specs.Prelude.{ℕ, List, ◌++◌, length, codes, decimal}
use Rattle.wv_weave.specs.declared.weaver.Woven.{Woven}

-- how the program is called
unfoldable pub usage_line : List ℕ
usage_line = codes "usage: loader weave|run|list FOLDER [options] | gen NUMBER SIZE --out DIR\n"

-- how many classes were written and edited, how many mixins were applied, and how many hooks they have
unfoldable pub summary_line : ℕ → ℕ → ℕ → ℕ → List ℕ
summary_line written edited mixins hooks =
    codes "woven " ++ decimal written ++ codes " classes, " ++ decimal edited ++ codes " edited, " ++ decimal mixins
    ++ codes " mixins, " ++ decimal hooks ++ codes " hooks\n"

-- the summary of what a folder is woven to
abbrev pub summary_of : Woven → List ℕ
summary_of woven = summary_line (length woven.files) woven.edited woven.mixins woven.hooks
