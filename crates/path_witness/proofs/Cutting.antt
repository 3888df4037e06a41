-- What closed parts that are taken out of a path leave.
use Rattle.std.proofs.Common.{◌≢◌, ℕ, ◌<◌, ◌≤◌, List, [], ◌∷◌, ◌++◌, length, refl, sym, ap, subst, arith, append_assoc, length-append}
use Rattle.std.specs.Prelude.{All, Contains}
use Rattle.std.proofs.lemmas.List.{length-map}
use Rattle.std.proofs.lemmas.List.Elements.{All-cons, All-head, All-tail}
use Rattle.rpq_base.specs.declared.data.Label.{Label}
use Rattle.rpq_base.specs.declared.data.Edge.{Edge}
use Rattle.rpq_model.specs.Path.{Leads, word_of}
use Rattle.rpq_model.proofs.Paths.{word_on}
use Rattle.containment_test.specs.Containment.{Contained}
use Rattle.path_witness.specs.Cuts.{IsCut, Nothing, Kept, Without}
use Rattle.path_witness.specs.Keeps.{CutKeeps}

-- ---- what is left

-- what follows edges begins where they lead to
pub leads_after : (part path : List Edge) (from middle to : List ℕ) → Leads from part middle → Leads from (part ++ path) to → Leads middle path to
leads_after [] path from middle to part_leads leads = subst (λ (vertex : List ℕ). Leads vertex path to) part_leads leads
leads_after (edge ∷ part) path from middle to part_leads leads = leads_after part path edge.to middle to part_leads.1 leads.1

All-rest : (P : Edge → Type 0) (part path : List Edge) → All P (part ++ path) → All P path
All-rest P [] path all = all
All-rest P (edge ∷ part) path all = All-rest P part path (All-tail P edge (part ++ path) all)

-- it leads to the same vertex
pub cut_leads : {from : List ℕ} {path cut : List Edge} (to : List ℕ) → IsCut from path cut → Leads from path to → Leads from cut to
cut_leads to Nothing leads = leads
cut_leads to (Kept edge is) leads = (leads.0, cut_leads to is leads.1)
cut_leads {from} to (Without part path back is) leads = cut_leads to is (leads_after part path from from to back leads)

-- its edges are of the path
pub cut_all : {from : List ℕ} {path cut : List Edge} (P : Edge → Type 0) → IsCut from path cut → All P path → All P cut
cut_all P Nothing all = all
cut_all P (Kept {path = path} {cut = cut} edge is) all = All-cons P edge cut (All-head P edge path all) (cut_all P is (All-tail P edge path all))
cut_all P (Without part path back is) all = cut_all P is (All-rest P part path all)

-- and no more than those
cut_short : {from : List ℕ} {path cut : List Edge} → IsCut from path cut → length cut ≤ length path
cut_short Nothing = omega arith
cut_short (Kept {path = path} {cut = cut} edge is) = let less = cut_short is in omega (arith, less)
cut_short (Without part path back is) = let less = cut_short is in omega (arith, less, length-append part path)

-- its word is in the language, whatever stands before
cut_word : {from : List ℕ} {path cut : List Edge} (language : List Label → Type 0) (front : List Label) → Contained language → IsCut from path cut →
    0 < length (front ++ word_of cut) → language (front ++ word_of path) → language (front ++ word_of cut)
cut_word language front contained Nothing some inside = inside
cut_word language front contained (Kept {path = path} {cut = cut} edge is) some inside =
    subst language (append_assoc front (edge.label ∷ []) (word_of cut))
    (cut_word language (front ++ edge.label ∷ []) contained is
    (subst (λ (word : List Label). 0 < length word) (sym (append_assoc front (edge.label ∷ []) (word_of cut))) some)
    (subst language (sym (append_assoc front (edge.label ∷ []) (word_of path))) inside))
cut_word {cut = cut} language front contained (Without part path back is) some inside =
    let less = cut_short is in
    let enough : 0 < length (front ++ word_of path) =
    omega (
      arith,
      some,
      less,
      length-append front (word_of cut),
      length-append front (word_of path),
      length-map cut (λ (edge : Edge). edge.label),
      length-map path (λ (edge : Edge). edge.label),
    ) in
    cut_word language front contained is some
    (contained front (word_of part) (word_of path) (λ none. absurd (omega (arith, enough, ap length none)))
    (subst (λ (word : List Label). language (front ++ word)) (word_on part path) inside))

-- ---- the law

-- edges that lead elsewhere are some
some_edges : (path : List Edge) (from to : List ℕ) → from ≢ to → Leads from path to → path ≢ []
some_edges [] from to apart leads none = apart leads
some_edges (edge ∷ path) from to apart leads none = cc

some_word : (path : List Edge) → path ≢ [] → 0 < length (word_of path)
some_word [] some = absurd (some refl)
some_word (edge ∷ path) some = omega arith

pub cut_keeps : (language : List Label → Type 0) → CutKeeps language
cut_keeps language contained edges pair path cut are =
    let leads = cut_leads pair.to are.is are.joins.leads.leads in
    let some = some_edges cut pair.from pair.to are.apart leads in
    record {
      joins = record {
        leads = record {
          some = some;
          members = cut_all (Contains edges) are.is are.joins.leads.members;
          leads = leads;
        };
        word = cut_word language [] contained are.is (some_word cut some) are.joins.word;
        taken = tt;
      };
      least = λ value number. cut_all (λ (edge : Edge). number ≤ value edge) are.is;
    }
