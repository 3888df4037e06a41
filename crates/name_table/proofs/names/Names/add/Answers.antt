use Rattle.std.proofs.Common.{◌≡◌, Some, None, ◌∷◌, [], ◌++◌, length, sym, ap, subst, ◌∙◌, arith}
use Rattle.std.proofs.lemmas.Map.Entries.{length-keys_of}
use Rattle.name_table.specs.Keys.{sort_key, AreBytes}
use Rattle.name_table.specs.Names.{number_of, KeepsNumbers}
use Rattle.name_table.specs.Table.{names_of, HasKey, IsTable}
use Rattle.name_table.specs.Ranks.{AreRanks}
use Rattle.name_table.proofs.Ranking.{ranks_kept}
use Rattle.name_table.proofs.Numbers.{added, names_more, table_more, number_of_new, keeps_numbers}
use Rattle.name_table.proofs.names.Names.add.Goals as goal

-- the name hasn't got a number yet
none : (c : goal.In_ok-insert) → number_of (names_of c.self.inside.names.entries) c.in_ok-copy.field-0 ≡ None
none c =
    subst (λ names. number_of names c.in_ok-copy.field-0 ≡ None) (sym c.self.view_is)
    (subst (λ name. number_of c.args.self.now name ≡ None) (sym c.in_ok-copy.ensures) c.requires.new)

-- the entries, with the name at the end
entries : (c : goal.In_ok-insert) →
    c.insert.new.self.entries ≡ c.self.inside.names.entries ++ (c.in_ok-copy.field-0, c.sort_key.result) ∷ []
entries c =
    added c.self.inside.names c.insert.new.self.entries c.in_ok-copy.field-0 c.sort_key.result (none c) c.in_ok-insert.ensures.entries

names : (c : goal.In_ok-insert) → names_of c.insert.new.self.entries ≡ c.args.self.now ++ c.args.name.now ∷ []
names c =
    ap names_of (entries c)
    ∙ names_more c.self.inside.names.entries c.in_ok-copy.field-0 c.sort_key.result
    ∙ ap (λ l. l ++ c.in_ok-copy.field-0 ∷ []) c.self.view_is
    ∙ ap (λ name. c.args.self.now ++ name ∷ []) c.in_ok-copy.ensures

pub invariant_of-self-2 : goal.invariant_of-self-2
invariant_of-self-2 c =
    let name = c.in_ok-copy.field-0 in
    let key = c.sort_key.result in
    let bytes : c.as_bytes.result.now ≡ name = c.as_bytes.ensures.bytes ∙ sym c.in_ok-copy.ensures in
    let own : HasKey (name, key) = (c.sort_key.ensures.key ∙ ap sort_key bytes, subst AreBytes bytes c.sort_key.ensures.bytes) in (
      subst IsTable (sym (entries c))
          (table_more c.self.inside.names.entries name key c.self.invariant.0 own (none c)
          (omega (arith, c.requires.few, ap length c.self.view_is, length-keys_of c.self.inside.names.entries))),
      subst (λ entries. AreRanks (names_of entries) c.self.inside.ranks.items) (sym (entries c))
          (subst (λ names. AreRanks names c.self.inside.ranks.items) (sym (names_more c.self.inside.names.entries name key))
          (ranks_kept (names_of c.self.inside.names.entries) name c.self.inside.ranks.items c.self.invariant.1)),
    )

pub returns-clause-number : goal.returns-clause-number
returns-clause-number c =
    ap (λ l. number_of l c.args.name.now) (names c)
    ∙ number_of_new c.args.self.now c.args.name.now c.requires.new
    ∙ ap Some (ap length (sym c.self.view_is) ∙ length-keys_of c.self.inside.names.entries ∙ sym c.len-number.ensures.len)

pub returns-clause-names : goal.returns-clause-names
returns-clause-names c = names c

pub returns-clause-kept : goal.returns-clause-kept
returns-clause-kept c =
    subst (KeepsNumbers c.args.self.now) (sym (names c)) (keeps_numbers c.args.self.now c.args.name.now)
