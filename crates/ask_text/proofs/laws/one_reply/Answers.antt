use Rattle.std.proofs.Common.{sym, ap, ◌∙◌, take}
use Rattle.answer_view.specs.View.{ViewValue}
use Rattle.ask_text.specs.Reply.{reply}
use Rattle.ask_text.proofs.laws.one_reply.Goals as goal

pub returns : goal.returns
returns c = λ queries history position ask ended text other one two.
    one.is_text
    ∙ ap (λ (view : ViewValue). reply queries view ask ended)
    (c.views_are_one.ensures queries
    (take position history) one.view two.view one.is_view two.is_view)
    ∙ sym two.is_text
