use Rattle.std.proofs.Common.{ℕ, false, List, [], length, ap, refl, sym, subst, arith}
use Rattle.query_file.specs.Compiled.{CompiledValue}
use Rattle.path_engine.specs.Engine.{EngineValue, StandsFor}
use Rattle.path_engine.specs.Labels.{IsTableOf}
use Rattle.path_engine.proofs.Each.{AreIndexes}
use Rattle.path_engine.proofs.Feeding.{starts}
use Rattle.path_engine.proofs.engine.Engine.new.Goals as goal

pub invariant_of-result : goal.invariant_of-result
invariant_of-result g c =
    let engine : EngineValue = record {
      queries = c.args.queries.items;
      position = 0;
      spent = false;
      names = c.in_ok-names.names;
      indexes = c.in_ok-indexes.indexes.items;
    } in
    let indexes = subst (λ (queries : List CompiledValue).
    AreIndexes [] 0 [] queries c.in_ok-indexes.indexes.items) c.deref.ensures.value
    c.in_ok-indexes.ensures in
    let stands : StandsFor engine [] = starts engine refl refl c.in_ok-names.ensures indexes in
    record {
      some = c.requires.some;
      few = c.requires.few;
      table = subst (λ (queries : List CompiledValue). IsTableOf queries c.in_ok-labels.labels)
          c.deref-2.ensures.value c.in_ok-labels.ensures;
      named = sym (ap (λ (all : List (List ℕ)). length all) c.in_ok-names.ensures);
      short = omega arith;
      stands = λ unspent. ([], stands);
    }

pub returns-clause-stands : goal.returns-clause-stands
returns-clause-stands g c =
    let engine : EngineValue = record {
      queries = c.args.queries.items;
      position = 0;
      spent = false;
      names = c.in_ok-names.names;
      indexes = c.in_ok-indexes.indexes.items;
    } in
    let indexes = subst (λ (queries : List CompiledValue).
    AreIndexes [] 0 [] queries c.in_ok-indexes.indexes.items) c.deref.ensures.value
    c.in_ok-indexes.ensures in
    let stands : StandsFor engine [] = starts engine refl refl c.in_ok-names.ensures indexes in
    stands
