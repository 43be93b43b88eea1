use Rattle.dceidl.proofs.sessions.run_line.Goals as goal

pub returns : goal.returns
returns g c = record {
  whole = c.run.ensures.whole;
  asked = c.run.ensures.asked;
  statuses = c.run.ensures.statuses;
  words = c.run.ensures.words;
  words_exactly = c.run.ensures.words_exactly;
  words_line = c.run.ensures.words_line;
  read = c.run.ensures.read;
  write = c.run.ensures.write;
  absent = c.run.ensures.absent;
  file = c.run.ensures.file;
  end = c.run.ensures.end;
  quiet = c.run.ensures.quiet;
  nothing_given = c.run.ensures.nothing_given;
  unfailed = c.run.ensures.unfailed;
  done = c.run.ensures.done;
  refused = c.run.ensures.refused;
  complete = c.run.ensures.complete;
  exactly = c.run.ensures.exactly;
}
