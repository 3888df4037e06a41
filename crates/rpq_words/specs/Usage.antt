-- The usage line.
use Rattle.std.specs.Prelude.{ℕ, List, ◌++◌, codes}

-- how the command is used
abbrev pub usage : List ℕ
usage =
    codes "usage: rpq [--workers N] [--history N] [--asks FILE --replies FILE] [--check] "
    ++ codes "[--generate N] [--two-way] [--paths] [--joins FILE] [--save FILE] [--from FILE] "
    ++ codes "[--endless] [--reader ASKS REPLIES]... [--faults FILE]... QUERIES [STREAM...]"
