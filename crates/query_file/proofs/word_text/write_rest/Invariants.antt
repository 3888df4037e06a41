use Rattle.std.proofs.Common.{◌∷◌, take}
use Rattle.std.specs.List.{flat_map}
use Rattle.std.specs.Fmt.{HasWritten, IsPlainFormatter}
use Rattle.path_syntax.specs.Written.{written_label}
use Rattle.query_file.proofs.word_text.write_rest.Given as goal

abbrev pub invariant-loop-label : goal.invariant-loop-label
invariant-loop-label g l =
    IsPlainFormatter l.initial.f → HasWritten g.W.Write.write_str_gives l.initial.f
    (flat_map (λ label. 47 ∷ written_label label) (take l.label-index l.labels)) l.f
