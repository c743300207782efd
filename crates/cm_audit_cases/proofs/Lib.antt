mod CasesAudit
