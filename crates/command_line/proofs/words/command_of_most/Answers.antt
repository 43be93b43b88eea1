use Rattle.std.proofs.Common.{◌∙◌, ap}
use Rattle.std.specs.String.{string_bytes}
use Rattle.command_line.specs.Words.{counted_command}
use Rattle.command_line.proofs.TakenWords.{eight_words, nine_words}
use Rattle.command_line.proofs.words.command_of_most.Goals as goal

pub returns-in-len8-clause-command : goal.returns-in-len8-clause-command
returns-in-len8-clause-command c =
    let words =
    eight_words string_bytes c.args.words.now c.verb-item.result c.idl-item.result c.acf-item.result c.op-item.result c.side-item.result c.order-item.result c.given-item.result c.text-item.result
    c.as_str.result.now c.as_str-in-len8.result.now c.as_str-in-len8-2.result.now c.as_str-in-len8-3.result.now c.as_str-in-len8-4.result.now c.as_str-in-len8-5.result.now
    c.as_str-in-len8-6.result.now c.as_str-in-len8-7.result.now
    c.in-len8.len_at_least c.in-len8.len_below
    c.verb-item.is c.idl-item.is c.acf-item.is c.op-item.is c.side-item.is c.order-item.is c.given-item.is c.text-item.is
    c.as_str.ensures.value c.as_str-in-len8.ensures.value c.as_str-in-len8-2.ensures.value c.as_str-in-len8-3.ensures.value c.as_str-in-len8-4.ensures.value c.as_str-in-len8-5.ensures.value
    c.as_str-in-len8-6.ensures.value c.as_str-in-len8-7.ensures.value
    in
    c.eight_words.ensures.command ∙ ap counted_command words

pub returns-in-len9-clause-command : goal.returns-in-len9-clause-command
returns-in-len9-clause-command c =
    let words =
    nine_words string_bytes c.args.words.now c.verb-item-then-words-lt10.result c.idl-item-then-words-lt10.result c.acf-item-then-words-lt10.result c.op-item-then-words-lt10.result
    c.side-item-then-words-lt10.result c.order-item-then-words-lt10.result c.chunk-item.result c.given-item-then-words-lt10.result c.text-item-then-words-lt10.result
    c.as_str-in-len9.result.now c.as_str-in-len9-2.result.now c.as_str-in-len9-3.result.now c.as_str-in-len9-4.result.now c.as_str-in-len9-5.result.now c.as_str-in-len9-6.result.now
    c.as_str-in-len9-7.result.now c.as_str-in-len9-8.result.now c.as_str-in-len9-9.result.now
    c.in-len9.len_at_least c.in-len9.len_below
    c.verb-item-then-words-lt10.is c.idl-item-then-words-lt10.is c.acf-item-then-words-lt10.is c.op-item-then-words-lt10.is c.side-item-then-words-lt10.is c.order-item-then-words-lt10.is
    c.chunk-item.is c.given-item-then-words-lt10.is c.text-item-then-words-lt10.is
    c.as_str-in-len9.ensures.value c.as_str-in-len9-2.ensures.value c.as_str-in-len9-3.ensures.value c.as_str-in-len9-4.ensures.value c.as_str-in-len9-5.ensures.value c.as_str-in-len9-6.ensures.value
    c.as_str-in-len9-7.ensures.value c.as_str-in-len9-8.ensures.value c.as_str-in-len9-9.ensures.value
    in
    c.encode_beside_words.ensures.command ∙ ap counted_command words
