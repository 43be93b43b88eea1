use Rattle.std.proofs.Common.{◌≡◌, ◌∙◌, true, refl, ap, sym}
use Rattle.idl_constructs.specs.Spelled.{spelled}
use Rattle.idl_constructs.specs.ListBreaches.{is_among}
use Rattle.idl_constructs.proofs.ListNotes.{no_word_more, one_word_more}
use Rattle.idl_constructs.proofs.lists.enlist.Goals as goal

pub returns-then-is_among : goal.returns-then-is_among
returns-then-is_among c before a are is =
    no_word_more c.args.words.now.items before a c.args.word are is
    (ap (λ l. is_among (spelled c.args.word) l) (sym c.as_slice.ensures.value) ∙ sym c.is_among.ensures ∙ c.if-is_among.true)
