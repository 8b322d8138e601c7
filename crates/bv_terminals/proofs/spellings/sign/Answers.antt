use Rattle.bv_terminals.proofs.spellings.sign.Goals as goal

pub returns : goal.returns
unfolding lib.Utf8.encode
returns c = c.look_up.ensures
