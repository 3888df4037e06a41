-- How the matcher goes through a word: each label of the expression has a mark, true where the
-- word so far may end with it. No public contract cites this.
use Rattle.std.specs.Prelude.{Bool, false, ◌&&◌, ◌||◌, List, [], ◌∷◌, ◌++◌}
use Rattle.rpq_base.specs.declared.data.Label.{Label}
use Rattle.rpq_base.specs.Same.{same_label}
use Rattle.path_syntax.specs.Expression.{Expression, Atom, Seq, Alt, Star, Plus, Opt}
use Rattle.path_syntax.specs.Laws.{is_nullable}

-- the first mark; none is false
abbrev pub first_mark : List Bool → Bool
first_mark [] = false
first_mark (mark ∷ marks) = mark

-- the marks but the first
abbrev pub other_marks : List Bool → List Bool
other_marks [] = []
other_marks (mark ∷ marks) = marks

-- the marks behind those of the expression
abbrev pub marks_behind : Expression → List Bool → List Bool
marks_behind (Atom label) marks = other_marks marks
marks_behind (Seq left right) marks = marks_behind right (marks_behind left marks)
marks_behind (Alt left right) marks = marks_behind right (marks_behind left marks)
marks_behind (Star body) marks = marks_behind body marks
marks_behind (Plus body) marks = marks_behind body marks
marks_behind (Opt body) marks = marks_behind body marks

-- a word of the expression ends with the word so far
abbrev pub may_end : Expression → List Bool → Bool
may_end (Atom label) marks = first_mark marks
may_end (Seq left right) marks =
    (is_nullable right && may_end left marks) || may_end right (marks_behind left marks)
may_end (Alt left right) marks = may_end left marks || may_end right (marks_behind left marks)
may_end (Star body) marks = may_end body marks
may_end (Plus body) marks = may_end body marks
may_end (Opt body) marks = may_end body marks

-- the marks after one more label, with which a word of the expression may begin or not
abbrev pub marks_after : Expression → List Bool → Bool → Label → List Bool
marks_after (Atom own) marks begins label = (begins && same_label own label) ∷ []
marks_after (Seq left right) marks begins label =
    marks_after left marks begins label ++
    marks_after right (marks_behind left marks)
    (may_end left marks || (begins && is_nullable left)) label
marks_after (Alt left right) marks begins label =
    marks_after left marks begins label ++ marks_after right (marks_behind left marks) begins label
marks_after (Star body) marks begins label =
    marks_after body marks (begins || may_end body marks) label
marks_after (Plus body) marks begins label =
    marks_after body marks (begins || may_end body marks) label
marks_after (Opt body) marks begins label = marks_after body marks begins label
