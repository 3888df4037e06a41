-- What the search finds, in the words of the law.
use Rattle.std.proofs.Common.{refl, sym, subst}
use Rattle.rpq_base.specs.declared.data.Pair.{Pair}
use Rattle.join_bindings.specs.Bindings.{IsPairOf}
use Rattle.join_bindings.specs.Touched.{ThroughIsTouched}

pub through_is_touched : ThroughIsTouched
through_is_touched sets join added events told are names = (
  (λ found.
      let event = found.0 in
      let atom = found.3.0 in
      let through = found.3.2 in
      record {
        is = record { as_many = through.is.as_many; met = through.is.met };
        atom = atom;
        among = found.3.1;
        pair = event.pair;
        has = through.is.own;
        touches = (are atom.query event.pair).1 (event, found.1, found.2, sym through.query, refl);
      }),
  (λ touched.
      let tells = (are touched.atom.query touched.pair).0 touched.touches in (
        tells.0,
        tells.1,
        tells.2,
        (
          touched.atom,
          touched.among,
          record {
            query = sym tells.3;
            is = record {
              as_many = touched.is.as_many;
              own = subst (λ (pair : Pair). IsPairOf names touched.atom pair) (sym tells.4) touched.has;
              met = touched.is.met;
            };
          },
        ),
      )),
)
