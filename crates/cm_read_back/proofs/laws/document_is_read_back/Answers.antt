use Rattle.cm_read_back.proofs.Skeletons.{skeletons_same}
use Rattle.cm_read_back.proofs.Texts.{parsed_are_readable}
use Rattle.cm_read_back.proofs.Trees.{document_is}
use Rattle.cm_read_back.proofs.laws.document_is_read_back.Goals as goal

pub returns-clause-read : goal.returns-clause-read
returns-clause-read c = document_is

pub returns-clause-parsed : goal.returns-clause-parsed
returns-clause-parsed c = parsed_are_readable

pub returns-clause-skeleton : goal.returns-clause-skeleton
returns-clause-skeleton c = skeletons_same
