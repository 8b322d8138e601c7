use Rattle.std.proofs.Common.{map, string_bytes}
use Rattle.bvd_words.specs.Requests.{request_of}
use Rattle.bvd_top.proofs.Done.{done, device, words}
use Rattle.bvd_top.proofs.run.run_single.Goals as goal

pub returns-clause-done : goal.returns-clause-done
returns-clause-done g c = λ files text honest seven. done (request_of (map string_bytes c.args.words.now)) files text _ _ c.end.result honest seven c.end.ensures.ending

pub returns-clause-device : goal.returns-clause-device
returns-clause-device g c = device (request_of (map string_bytes c.args.words.now)) _ _ c.end.result c.end.ensures.ending

pub returns-clause-words : goal.returns-clause-words
returns-clause-words g c = words (request_of (map string_bytes c.args.words.now)) _ _ c.end.result c.end.ensures.ending
