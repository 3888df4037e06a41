use Rattle.rpq_threads.proofs.serving.fn.serve.scope+FnOnce.call_once.Goals as goal

-- the bounds of the types, and what the closure requires
pub scope-requires : goal.scope-requires
scope-requires g c =
    let rest = c.requires.1.1.1.1.1.1 in
    (rest.1.0, (rest.1.1, (rest.1.2, (rest.1.3, (rest.1.4, rest.0)))))
