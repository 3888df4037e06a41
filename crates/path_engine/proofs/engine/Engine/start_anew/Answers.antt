use Rattle.std.proofs.Common.{ℕ, false, List, [], length, ap, refl, sym, subst, arith}
use Rattle.query_file.specs.Compiled.{CompiledValue}
use Rattle.path_engine.specs.Engine.{EngineValue, StandsFor}
use Rattle.path_engine.proofs.Each.{AreIndexes}
use Rattle.path_engine.proofs.Feeding.{starts}
use Rattle.path_engine.proofs.engine.Engine.start_anew.Goals as goal

pub invariant_of-self-2 : goal.invariant_of-self-2
invariant_of-self-2 c =
    let engine : EngineValue = record {
      queries = c.self.inside.queries.items;
      position = 0;
      spent = false;
      names = c.clear.new.self;
      indexes = c.in_ok-self-inside.field-0.items;
    } in
    let indexes = subst (λ (queries : List CompiledValue).
    AreIndexes [] 0 [] queries c.in_ok-self-inside.field-0.items) c.deref.ensures.value
    c.in_ok-self-inside.ensures in
    let stands : StandsFor engine [] = starts engine refl refl c.clear.ensures indexes in
    record {
      some = c.self.invariant.some;
      few = c.self.invariant.few;
      table = c.self.invariant.table;
      named = sym (ap (λ (all : List (List ℕ)). length all) c.clear.ensures);
      short = omega arith;
      stands = λ unspent. ([], stands);
    }

pub returns-clause-stands : goal.returns-clause-stands
unfolding invariant_of-self-2
returns-clause-stands c = ((invariant_of-self-2 c).stands refl).1
