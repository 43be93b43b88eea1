use Rattle.dceidl.proofs.WrappedCalls.{wrapped_call, wrapped_text}
use Rattle.dceidl.proofs.laws.call_undoes_wrap.Goals as goal

pub returns-clause-is_call : goal.returns-clause-is_call
returns-clause-is_call c f s of order call max made id least most h = wrapped_call c.pieces_are_fragments.ensures f s of order call max made id least most h

pub returns-clause-printed : goal.returns-clause-printed
returns-clause-printed c f s of order call max made id least most h t given printed other d m =
    wrapped_text c.pieces_are_fragments.ensures c.same_texts.ensures f s of order call max made id least most h t given printed other d m
