-- Request 2026-02, "An index made from tokens": what a list of tokens says, and the index that holds it. Assumes nothing: these are definitions.
use Rattle.std.specs.Prelude.{Bool, cond, ◌&&◌, ◌||◌, List, [], ◌∷◌, ◌++◌, map, ℕ, ◌+◌, ◌*◌, ◌/◌, eqb, leb, ltb, length, get_or}
use Rattle.meaning.specs.Below.{list_to, list_below}
use Rattle.meaning.specs.Lent.{Index, field_count, has_norms, has_positions, leaf_count, leaf_field}
use Rattle.meaning.specs.SmallFloat.{int_to_byte4}
use Rattle.meaning.specs.Packed.{Posting, run_of, join_to, pack_postings, pack_positions, pack_leaves}

-- ---- Token, 3 words: leaf, document, position
pub record Token : Type 0 where
  pub leaf : ℕ
  pub document : ℕ
  pub position : ℕ

abbrev pub token_count : List ℕ → ℕ
token_count ws = length ws / 3

abbrev pub token_at : List ℕ → ℕ → Token
token_at ws i = record { leaf = get_or ws (3 * i) 0; document = get_or ws (3 * i + 1) 0; position = get_or ws (3 * i + 2) 0 }

unfoldable pub tokens_of : List ℕ → List Token
tokens_of ws = list_to (token_count ws) (token_at ws)

-- "ascending in that order, repeats allowed": t stands before u or is equal to it, by leaf, then document, then position
unfoldable pub not_after : Token → Token → Bool
not_after t u =
    ltb t.leaf u.leaf || (eqb t.leaf u.leaf && (ltb t.document u.document || (eqb t.document u.document && leb t.position u.position)))

-- ---- what is lent beside the tokens: the fields, and the field of each leaf
-- N and the fields alone
abbrev pub fields_lent : ℕ → List ℕ → Index
fields_lent n fields =
    record { max_doc = n; fields = fields; leaves = []; postings = []; positions = []; norms = []; live = []; columns = []; values = [] }

-- whether leaf l's field has positions
abbrev pub positional : List ℕ → List ℕ → ℕ → Bool
positional fields leaf_fields l = has_positions (fields_lent 0 fields) (get_or leaf_fields l 0)

-- ---- a leaf's run
-- the positions of the tokens of leaf l in document d, "in the tokens' order"
unfoldable pub positions_at : List Token → ℕ → ℕ → List ℕ
positions_at [] l d = []
positions_at (t ∷ ts) l d = cond (eqb t.leaf l && eqb t.document d) (t.position ∷ []) [] ++ positions_at ts l d

-- the posting of leaf l for document d; p: the field has positions
abbrev pub posting_for : Bool → List Token → ℕ → ℕ → Posting
posting_for p ts l d = record { document = d; frequency = length (positions_at ts l d); positions = cond p (positions_at ts l d) [] }

-- a posting for each document below n in which leaf l has a token, ascending
unfoldable pub run_for : Bool → ℕ → List Token → ℕ → List Posting
run_for p n ts l = map (posting_for p ts l) (list_below n (λ d. ltb 0 (length (positions_at ts l d))))

-- ---- norms
-- "the field's token count in that document, all tokens counted"
unfoldable pub field_tokens : List ℕ → List Token → ℕ → ℕ → ℕ
field_tokens leaf_fields [] f d = 0
field_tokens leaf_fields (t ∷ ts) f d = cond (eqb (get_or leaf_fields t.leaf 0) f && eqb t.document d) 1 0 + field_tokens leaf_fields ts f d

-- "coded as SmallFloat's intToByte4 does"
abbrev pub norm_for : List ℕ → List Token → ℕ → ℕ → ℕ
norm_for leaf_fields ts f d = int_to_byte4 (field_tokens leaf_fields ts f d)

-- ---- the written index
-- the leaves' runs, those without tokens too
unfoldable pub token_runs : ℕ → List ℕ → List ℕ → List Token → List (List Posting)
token_runs n fields leaf_fields ts = list_to (length leaf_fields) (λ l. run_for (positional fields leaf_fields l) n ts l)

-- N bytes for each field with norms, in field order
unfoldable pub token_norms : ℕ → List ℕ → List ℕ → List Token → List ℕ
token_norms n fields leaf_fields ts =
    join_to (field_count (fields_lent n fields)) (λ f. cond (has_norms (fields_lent n fields) f) (list_to n (norm_for leaf_fields ts f)) [])

-- "postings and positions (where the field has them) packed in the tokens' order"
unfoldable pub token_postings : ℕ → List ℕ → List ℕ → List Token → List ℕ
token_postings n fields leaf_fields ts = pack_postings (list_to (length leaf_fields) (positional fields leaf_fields)) 0 (token_runs n fields leaf_fields ts)

unfoldable pub token_positions : ℕ → List ℕ → List ℕ → List Token → List ℕ
token_positions n fields leaf_fields ts = pack_positions (token_runs n fields leaf_fields ts)

-- the index that a caller lends afterwards, with the leaves' idfs and what else it has
unfoldable pub index_of_tokens : ℕ → List ℕ → List ℕ → List ℕ → List ℕ → List ℕ → List ℕ → List ℕ → Index
index_of_tokens n fields ws leaf_fields idfs live columns values =
    record { max_doc = n; fields = fields; leaves = pack_leaves leaf_fields idfs (token_runs n fields leaf_fields (tokens_of ws)); postings = token_postings n fields leaf_fields (tokens_of ws); positions = token_positions n fields leaf_fields (tokens_of ws); norms = token_norms n fields leaf_fields (tokens_of ws); live = live; columns = columns; values = values }

-- ---- "Reading the written index back must yield the tokens"
-- a run's tokens: one for each position, or "frequency" tokens of position 0 in a field without positions
unfoldable pub tokens_in : Bool → ℕ → List Posting → List Token
tokens_in p l [] = []
tokens_in p l (x ∷ xs) =
    cond p (map (λ q. record { leaf = l; document = x.document; position = q }) x.positions) (list_to x.frequency (λ i. record { leaf = l; document = x.document; position = 0 })) ++ tokens_in p l xs

unfoldable pub tokens_back : Index → List Token
tokens_back ix = join_to (leaf_count ix) (λ l. tokens_in (has_positions ix (leaf_field ix l)) l (run_of ix l))

-- "in a field without positions, all but their positions": what of a token comes back
abbrev pub kept : List ℕ → List ℕ → Token → Token
kept fields leaf_fields t = record { leaf = t.leaf; document = t.document; position = cond (positional fields leaf_fields t.leaf) t.position 0 }
