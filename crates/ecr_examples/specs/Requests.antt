-- The members of bodies and the calls that they make, at examples (RFC 8259; Amazon ECR API Reference, the actions'
-- request parameters). That null counts as absent is of this registry.
use Rattle.std.specs.Prelude.{◌≡◌, ℕ, ◌^◌, pos, negsuc, true, false, List, [], ◌∷◌, map, replicate, None, Some, codes}
use Rattle.serde_json.specs.Data.{Data, null, boolean, number, unsigned, negative, string, array, object, Items, no_items, item, member, no_members}
use Rattle.ecr_model.specs.declared.names.Name.{Name}
use Rattle.ecr_model.specs.declared.names.RepoKey.{RepoKey}
use Rattle.ecr_model.specs.declared.names.SiteId.{SiteId}
use Rattle.ecr_model.specs.declared.registry.repository.Mutability.TheVariants.{Mutable, Immutable}
use Rattle.ecr_model.specs.declared.requests.action.Action.TheVariants.{CreateRepository, DeleteRepository, DescribeRepositories, PutImageTagMutability}
use Rattle.ecr_model.specs.declared.requests.action.Domain.TheVariants as domains
use Rattle.ecr_model.specs.declared.requests.call.Call.TheVariants.{Create, Delete, SetMutability}
use Rattle.ecr_model.specs.declared.requests.refusal.Parameter.TheVariants.{RegistryId, RepositoryName, ImageTagMutability, Force, RepositoryNames, MaxResults, NextToken}
use Rattle.ecr_model.specs.declared.requests.refusal.Refusal.TheVariants.{InvalidParameter, UnknownOperation, Serialization}
use Rattle.ecr_model.specs.documents.Documents.{document}
use Rattle.ecr_model.specs.documents.Policies.{texts_of}
use Rattle.ecr_model.specs.requests.Actions.{action_name, all_actions, action_of, may, must, unless, members_of, cell, many, asks, refuses, text_of_parameter, site_in, key_in, mutability_in, force_in, names_in, page_in, one, several, made_in, asked_in, made_by, unless_bad, values_reading, typed_reading, body_reading, action_reading, service}
use Rattle.ecr_model.specs.requests.Members.{unless_null, member_at, as_whole, are_texts, all_texts, absent, text, whole, truth, texts, typed, typed_member, Valued, valued, all_typed, typed_members, named_value, value_at, is_there, text_in, whole_in, truth_in, texts_in, digits_value, is_decimal, token_place, site_of_account, rows_of, mutability_of, are_names, allows, stands_beside, is_bad, first_bad}
use Rattle.ecr_examples.specs.States.{app}

abbrev home : SiteId
home = app.site

abbrev neighbour : SiteId
neighbour = record { region = codes "us-east-1"; account = codes "444455556666" }

abbrev abroad : SiteId
abroad = record { region = codes "eu-west-2"; account = codes "777788889999" }

abbrev served : List SiteId
served = abroad ∷ home ∷ neighbour ∷ []

abbrev name : List ℕ → Name
name t = record { text = t }

-- the whole number n
abbrev count : ℕ → Data
count n = number (unsigned n)

abbrev pair : Data → Data → Items
pair a b = item a (item b no_items)

-- `{"a": null, "b": "x", "c": 7}`
abbrev body : Data
body = object (member (codes "a") null
    (member (codes "b") (string (codes "x")) (member (codes "c") (count 7) no_members)))

-- a value is read as the JSON type of its domain; null is absent, and a number with a fraction isn't whole
pub record ValuesAreTyped : Type 0 where
  pub document_is : document (codes "{\"a\":null,\"b\":\"x\",\"c\":7}") ≡ Some body
  pub no_document : document (codes "{\"a\":1}}") ≡ None
  pub no_text : document (34 ∷ 255 ∷ 34 ∷ []) ≡ None
  pub no_null : unless_null null ≡ None
  pub false_is_there : unless_null (boolean false) ≡ Some (boolean false)
  pub at : member_at (codes "b") body ≡ Some (string (codes "x"))
  pub at_null : member_at (codes "a") body ≡ None
  pub at_none : member_at (codes "d") body ≡ None
  pub whole_is : as_whole (count 7) ≡ Some (pos 7)
  pub negative_is : as_whole (number (negative (negsuc 6))) ≡ Some (negsuc 6)
  pub no_whole : as_whole (string (codes "7")) ≡ None
  pub two_texts : are_texts (pair (string []) (string [])) ≡ true
  pub one_text : are_texts (pair (string []) null) ≡ false
  pub both : texts_of (pair (string (codes "x")) (string (codes "y"))) ≡ codes "x" ∷ codes "y" ∷ []
  pub all_are : all_texts (pair (string (codes "x")) (string (codes "y"))) ≡ Some (codes "x" ∷ codes "y" ∷ [])
  pub not_all : all_texts (pair (string (codes "x")) (count 1)) ≡ None
  pub account : typed domains.Account (string (codes "1")) ≡ Some (text (codes "1"))
  pub account_number : typed domains.Account (count 111122223333) ≡ None
  pub repository : typed domains.RepositoryName (string (codes "ab")) ≡ Some (text (codes "ab"))
  pub no_repository : typed domains.RepositoryName (boolean true) ≡ None
  pub repositories : typed domains.RepositoryNames (array (item (string (codes "ab")) no_items))
      ≡ Some (texts (codes "ab" ∷ []))
  pub no_repositories : typed domains.RepositoryNames (string (codes "ab")) ≡ None
  pub mutability : typed domains.Mutability (string (codes "mutable")) ≡ Some (text (codes "mutable"))
  pub force : typed domains.Truth (boolean false) ≡ Some (truth false)
  pub no_force : typed domains.Truth (string (codes "true")) ≡ None
  pub results : typed domains.Results (count 7) ≡ Some (whole (pos 7))
  pub token : typed domains.Token (string (codes "7")) ≡ Some (text (codes "7"))
  pub no_token : typed domains.Token (count 7) ≡ None

-- the values of DescribeRepositories with a list of names and a token
abbrev values : List Valued
values = valued (may RegistryId domains.Account) absent
    ∷ valued (may RepositoryNames domains.RepositoryNames) (texts (codes "ab" ∷ []))
    ∷ valued (unless RepositoryNames MaxResults domains.Results) absent
    ∷ valued (unless RepositoryNames NextToken domains.Token) (text (codes "7")) ∷ []

abbrev page_values : List Valued
page_values = valued (may MaxResults domains.Results) (whole (pos 1000))
    ∷ valued (may NextToken domains.Token) (text (codes "7")) ∷ []

-- each member's value, by its name
pub record ValuesAreFound : Type 0 where
  pub absent_member : typed_member body (may Force domains.Truth) ≡ Some absent
  pub member_is : typed_member (object (member (codes "force") (boolean true) no_members)) (may Force domains.Truth)
      ≡ Some (truth true)
  pub mistyped : typed_member (object (member (codes "force") (count 1) no_members)) (may Force domains.Truth) ≡ None
  pub with_name : valued (must RepositoryName domains.RepositoryName) (text (codes "ab"))
      ≡ record { name = codes "repositoryName"; member = must RepositoryName domains.RepositoryName; value = text (codes "ab") }
  pub all_are : all_typed (may Force domains.Truth ∷ []) (object no_members)
      ≡ Some (valued (may Force domains.Truth) absent ∷ [])
  pub one_not : all_typed (may Force domains.Truth ∷ []) (object (member (codes "force") (count 1) no_members)) ≡ None
  pub no_object : typed_members [] (array no_items) ≡ None
  pub an_object : typed_members [] (object no_members) ≡ Some []
  pub named : named_value (codes "nextToken") values ≡ text (codes "7")
  pub unnamed : named_value (codes "force") values ≡ absent
  pub at : value_at NextToken values ≡ text (codes "7")
  pub there : map is_there (absent ∷ truth false ∷ texts [] ∷ text [] ∷ whole (pos 0) ∷ [])
      ≡ false ∷ true ∷ true ∷ true ∷ true ∷ []
  pub text_is : text_in (text (codes "7")) ≡ Some (codes "7")
  pub no_text : text_in (whole (pos 7)) ≡ None
  pub whole_is : whole_in (whole (pos 7)) ≡ Some (pos 7)
  pub no_whole : whole_in (text (codes "7")) ≡ None
  pub truth_is : truth_in (truth false) ≡ Some false
  pub no_truth : truth_in absent ≡ None
  pub texts_are : texts_in (texts (codes "ab" ∷ [])) ≡ Some (codes "ab" ∷ [])
  pub no_texts : texts_in (text (codes "ab")) ≡ None

-- which values are allowed: 1 to 1000 rows, 1 to 100 names, tokens below 2^63 without leading zeros
pub record ValuesAreAllowed : Type 0 where
  pub value : digits_value (codes "1099511627776") ≡ 2 ^ 40
  pub zeros : digits_value (codes "007") ≡ 7
  pub decimals : map is_decimal (codes "0" ∷ codes "10" ∷ codes "01" ∷ [] ∷ codes "1a" ∷ codes "-1" ∷ [])
      ≡ true ∷ true ∷ false ∷ false ∷ false ∷ false ∷ []
  pub place : token_place (codes "9223372036854775807") ≡ Some 9223372036854775807
  pub no_place : token_place (codes "9223372036854775808") ≡ None
  pub padded : token_place (codes "07") ≡ None
  pub site : site_of_account home served (codes "444455556666") ≡ Some neighbour
  pub other_region : site_of_account home served (codes "777788889999") ≡ None
  pub rows : map rows_of (pos 0 ∷ pos 1 ∷ pos 1000 ∷ pos 1001 ∷ negsuc 0 ∷ [])
      ≡ None ∷ Some 1 ∷ Some 1000 ∷ None ∷ None ∷ []
  pub words : map mutability_of (codes "MUTABLE" ∷ codes "IMMUTABLE" ∷ codes "mutable" ∷ [])
      ≡ Some Mutable ∷ Some Immutable ∷ None ∷ []
  pub hundred : are_names (replicate 100 (codes "ab")) ≡ true
  pub too_many : are_names (replicate 101 (codes "ab")) ≡ false
  pub no_names : are_names [] ≡ false
  pub bad_name : are_names (codes "ab" ∷ codes "a" ∷ []) ≡ false
  pub account : allows home served domains.Account (text (codes "444455556666")) ≡ true
  pub no_account : allows home served domains.Account (text (codes "000000000000")) ≡ false
  pub repository : allows home served domains.RepositoryName (text (codes "a.b")) ≡ true
  pub no_repository : allows home served domains.RepositoryName (text (codes "A")) ≡ false
  pub repositories : allows home served domains.RepositoryNames (texts (codes "ab" ∷ [])) ≡ true
  pub no_repositories : allows home served domains.RepositoryNames (texts []) ≡ false
  pub mutability : allows home served domains.Mutability (text (codes "IMMUTABLE")) ≡ true
  pub no_mutability : allows home served domains.Mutability (text (codes "Immutable")) ≡ false
  pub force : allows home served domains.Truth (truth false) ≡ true
  pub results : allows home served domains.Results (whole (pos 1)) ≡ true
  pub no_results : allows home served domains.Results (whole (pos 0)) ≡ false
  pub token : allows home served domains.Token (text (codes "0")) ≡ true
  pub no_token : allows home served domains.Token (text []) ≡ false
  pub beside : stands_beside values (Some RepositoryNames) ≡ true
  pub not_beside : stands_beside values (Some RegistryId) ≡ false
  pub beside_none : stands_beside values None ≡ false
  pub bad : map (is_bad home served values) values ≡ false ∷ false ∷ false ∷ true ∷ []
  pub required : is_bad home served [] (valued (must Force domains.Truth) absent) ≡ true
  pub optional : is_bad home served [] (valued (may Force domains.Truth) absent) ≡ false
  pub out_of_domain : is_bad home served [] (valued (may MaxResults domains.Results) (whole (pos 0))) ≡ true
  pub first : first_bad home served values ≡ Some NextToken
  pub none : first_bad home served page_values ≡ None

-- the names of the actions and the members of their bodies, in their order
pub record ActionsAreThese : Type 0 where
  pub prefix : service ≡ codes "AmazonEC2ContainerRegistry_V20150921."
  pub all : map action_name all_actions
      ≡ codes "CreateRepository" ∷ codes "DeleteRepository" ∷ codes "DescribeRepositories"
      ∷ codes "PutImageTagMutability" ∷ []
  pub named : action_of (codes "AmazonEC2ContainerRegistry_V20150921.DeleteRepository") ≡ Some DeleteRepository
  pub small : action_of (codes "amazonec2containerregistry_v20150921.DeleteRepository") ≡ None
  pub bare : action_of (codes "DeleteRepository") ≡ None
  pub optional : may Force domains.Truth
      ≡ record { parameter = Force; domain = domains.Truth; required = false; apart = None }
  pub required : must Force domains.Truth
      ≡ record { parameter = Force; domain = domains.Truth; required = true; apart = None }
  pub apart : unless Force NextToken domains.Token
      ≡ record { parameter = NextToken; domain = domains.Token; required = false; apart = Some Force }
  pub of_create : members_of CreateRepository
      ≡ may RegistryId domains.Account ∷ must RepositoryName domains.RepositoryName
      ∷ may ImageTagMutability domains.Mutability ∷ []
  pub of_delete : members_of DeleteRepository
      ≡ may RegistryId domains.Account ∷ must RepositoryName domains.RepositoryName
      ∷ may Force domains.Truth ∷ []
  pub of_describe : members_of DescribeRepositories ≡ may RegistryId domains.Account
      ∷ may RepositoryNames domains.RepositoryNames ∷ unless RepositoryNames MaxResults domains.Results
      ∷ unless RepositoryNames NextToken domains.Token ∷ []
  pub of_put : members_of PutImageTagMutability
      ≡ may RegistryId domains.Account ∷ must RepositoryName domains.RepositoryName
      ∷ must ImageTagMutability domains.Mutability ∷ []

-- the values of a body of CreateRepository at the neighbour's
abbrev creation : List Valued
creation = valued (may RegistryId domains.Account) (text (codes "444455556666"))
    ∷ valued (must RepositoryName domains.RepositoryName) (text (codes "ab"))
    ∷ valued (may ImageTagMutability domains.Mutability) (text (codes "IMMUTABLE")) ∷ []

abbrev there : RepoKey
there = record { site = neighbour; name = name (codes "ab") }

-- the call that values make
pub record CallsAreMade : Type 0 where
  pub text_is : text_of_parameter RepositoryName creation ≡ Some (codes "ab")
  pub site : site_in home served creation ≡ neighbour
  pub own_site : site_in home served [] ≡ home
  pub key : key_in home served creation ≡ there
  pub mutability : mutability_in creation ≡ Immutable
  pub no_mutability : mutability_in [] ≡ Mutable
  pub force : force_in (valued (may Force domains.Truth) (truth true) ∷ []) ≡ true
  pub no_force : force_in [] ≡ false
  pub names : names_in values ≡ Some (name (codes "ab") ∷ [])
  pub no_names : names_in [] ≡ None
  pub page : page_in page_values ≡ record { from = 7; max = 1000 }
  pub no_page : page_in [] ≡ record { from = 0; max = 100 }
  pub create : made_in CreateRepository creation ≡ one (Create Immutable)
  pub delete : made_in DeleteRepository [] ≡ one (Delete false)
  pub describe : made_in DescribeRepositories [] ≡ several
  pub put : made_in PutImageTagMutability creation ≡ one (SetMutability Immutable)
  pub asked : asked_in home served creation (one (Delete true)) ≡ cell there (Delete true) None
  pub asked_several : asked_in home served values several
      ≡ many home (Some (name (codes "ab") ∷ [])) (record { from = 7; max = 100 })
  pub made : made_by home served CreateRepository creation ≡ asks (cell there (Create Immutable) None)
  pub not_bad : unless_bad None (refuses Serialization) ≡ refuses Serialization
  pub bad : unless_bad (Some Force) (refuses Serialization) ≡ refuses (InvalidParameter Force)
  pub of_values : values_reading home served CreateRepository creation ≡ asks (cell there (Create Immutable) None)
  pub of_bad : values_reading home served DescribeRepositories values ≡ refuses (InvalidParameter NextToken)
  pub of_type : typed_reading home served CreateRepository (array no_items) ≡ refuses Serialization
  pub of_nothing : body_reading home served CreateRepository None ≡ refuses Serialization
  pub of_object : body_reading home served CreateRepository (Some (object no_members))
      ≡ refuses (InvalidParameter RepositoryName)
  pub of_no_action : action_reading home served None (codes "[") ≡ refuses UnknownOperation
  pub of_action : action_reading home served (Some CreateRepository) (codes "[") ≡ refuses Serialization
