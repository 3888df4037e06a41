-- Some files and lines, by going through them.
use Rattle.std.proofs.Common.{refl}
use Rattle.text_parts.specs.Lines.{raw_lines, without_return}
use Rattle.text_parts.specs.Fields.{fields}
use Rattle.text_parts.specs.Reading.{reached}
use Rattle.rpq_base.specs.Names.{is_name}
use Rattle.rpq_model.specs.Query.{query_named}
use Rattle.join_file.specs.JoinLine.{variable_name, atom_texts, is_count, are_sound, checked_text}
use Rattle.join_file.specs.JoinLine.{text_of_fields, placed, named, term_of}
use Rattle.join_file.specs.JoinLine.{atom_of, with_atoms, atoms_of, join_of_fields}
use Rattle.join_file.specs.JoinsFile.{after_line, joins}
use Rattle.join_file.specs.Examples.{JoinExamples}

pub join_examples : JoinExamples
unfolding raw_lines without_return fields is_name variable_name atom_texts is_count are_sound checked_text text_of_fields placed query_named named
    term_of atom_of with_atoms atoms_of join_of_fields after_line reached joins
join_examples = record {
  empty = refl;
  chain = λ one two p q. rw (p, q) refl;
  symmetric = λ one p. rw p refl;
  two = λ one p. rw p refl;
  short = λ queries. refl;
  bare = λ queries. refl;
  no_variable = λ queries. refl;
  other_word = λ queries. refl;
  twice = λ one p. rw p refl;
  unknown = λ one p. rw p refl;
  bad = λ one p. rw p refl;
  unknown_first = λ one p. rw p refl;
}
