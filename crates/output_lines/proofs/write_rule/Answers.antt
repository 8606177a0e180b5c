-- `output_lines::write_rule` meets its contract: the name of the number's rule. Assumes nothing.
use Rattle.output_lines.specs.Names.{name_of}
use Rattle.output_lines.proofs.write_rule.Goals as goal

pub write_word-requires : goal.write_word-requires
unfolding name_of
write_word-requires c = rw (c.name.ensures, c.rule_of.ensures) c.requires

pub returns : goal.returns
unfolding name_of
returns c = rw (c.name.ensures, c.rule_of.ensures) at c.write_word.ensures
