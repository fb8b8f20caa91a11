-- A token as the struct that the code reads it into. Assumes nothing: these are definitions.
use Rattle.std.specs.Prelude.{List, ℕ}
use Rattle.meaning.specs.Tokens.{token_at}
use Rattle.tokens.specs.declared.Token.{Token}

-- the words of token i
abbrev pub token_of : List ℕ → ℕ → Token
token_of ws i =
    record {
      leaf = (token_at ws i).leaf;
      document = (token_at ws i).document;
      position = (token_at ws i).position;
    }
