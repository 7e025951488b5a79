use Rattle.batch_jobs.proofs.FileNames.{is_file_name-text, is_file_name-not_text}
use Rattle.batch_jobs.proofs.job_reader.file_name.Goals as goal

pub returns-else-contains : goal.returns-else-contains
returns-else-contains c = (
  is_file_name-text c.args.word.now c.contains.result c.in-Ok.ensures.cases.1
      c.contains.ensures.value c.if-contains.false,
  c.in-Ok.ensures.cases.0,
)

pub returns-in-Err : goal.returns-in-Err
returns-in-Err c = is_file_name-not_text c.args.word.now c.in-Err.ensures.cases.0
